use Rattle.std.proofs.lemmas.Str.Pattern.{strip_prefix_char}
use Rattle.texts.proofs.MarkedTexts.{finds_first}
use Rattle.texts.proofs.marks.without_first.Goals as goal

pub returns : goal.returns
returns c = finds_first c.args.mark c.args.text.now c.strip_prefix.result c.utf8.text c.requires
    (strip_prefix_char c.args.mark c.args.text.now c.strip_prefix.result c.strip_prefix.ensures.cases c.requires)
