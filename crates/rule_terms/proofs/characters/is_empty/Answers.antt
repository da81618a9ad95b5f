use Rattle.rule_terms.proofs.MadeTexts.{empty_same}
use Rattle.rule_terms.proofs.characters.is_empty.Goals as goal

pub returns : goal.returns
returns c = empty_same c.args.text.now c.is_empty.result c.utf8.text c.is_empty.ensures
