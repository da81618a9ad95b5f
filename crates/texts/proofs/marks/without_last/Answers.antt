use Rattle.std.proofs.lemmas.Str.Pattern.{strip_suffix_char}
use Rattle.texts.proofs.MarkedTexts.{finds_last}
use Rattle.texts.proofs.marks.without_last.Goals as goal

pub returns : goal.returns
returns c = finds_last c.args.mark c.args.text.now c.strip_suffix.result c.utf8.text c.requires
    (strip_suffix_char c.args.mark c.args.text.now c.strip_suffix.result c.strip_suffix.ensures.cases c.requires)
