use Rattle.texts.proofs.MarkedTexts.{finds_around}
use Rattle.texts.proofs.marks.around_first.Goals as goal

pub returns : goal.returns
returns c = finds_around c.args.mark c.args.text.now c.split_once.result c.utf8.text c.requires c.split_once.ensures.cases
