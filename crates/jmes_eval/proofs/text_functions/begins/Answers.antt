use Rattle.std.proofs.Common.{◌∙◌}
use Rattle.std.proofs.lemmas.Str.Pattern.{starts_text}
use Rattle.jmes_eval.proofs.TextParts.{starts-chars}
use Rattle.jmes_eval.proofs.text_functions.begins.Goals as goal

pub returns : goal.returns
returns c = starts_text c.starts_with.result c.args.front.now c.args.text.now c.starts_with.ensures.cases ∙ starts-chars c.args.text.now c.args.front.now c.utf8.text c.utf8.front
