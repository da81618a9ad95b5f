use Rattle.jmes_syntax.proofs.GrammarOfTexts.{text_sound, text_complete}
use Rattle.jmes_syntax.proofs.laws.reading_is_grammar.Goals as goal

pub returns : goal.returns
returns c = λ text e. (text_complete text e, text_sound text e)
