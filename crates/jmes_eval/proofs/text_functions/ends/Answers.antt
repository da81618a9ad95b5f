use Rattle.std.proofs.Common.{◌∙◌}
use Rattle.std.proofs.lemmas.Str.Pattern.{ends_text}
use Rattle.jmes_eval.proofs.TextParts.{ends-chars}
use Rattle.jmes_eval.proofs.text_functions.ends.Goals as goal

pub returns : goal.returns
returns c = ends_text c.ends_with.result c.args.back.now c.args.text.now c.ends_with.ensures.cases ∙ ends-chars c.args.text.now c.args.back.now c.utf8.text c.utf8.back
