use Rattle.json_doc.proofs.Complete.{text_complete}
use Rattle.json_doc.proofs.Sound.{text_sound}
use Rattle.json_doc.proofs.read_laws.reading_is_grammar.Goals as goal

pub returns : goal.returns
returns c = λ bytes d. (text_sound bytes d, text_complete bytes d)
