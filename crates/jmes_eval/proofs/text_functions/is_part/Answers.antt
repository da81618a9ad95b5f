use Rattle.std.proofs.lemmas.Str.Pattern.{contains_text}
use Rattle.jmes_eval.proofs.TextParts.{same_bool, part-to, part-back}
use Rattle.jmes_eval.proofs.text_functions.is_part.Goals as goal

pub returns : goal.returns
returns c =
    let found = contains_text c.contains.result c.args.part.now c.args.text.now c.contains.ensures.cases in
    same_bool _ _
    (λ e. part-to c.args.text.now c.args.part.now c.utf8.text c.utf8.part (found.0 e))
    (λ e. found.1 (part-back c.args.text.now c.args.part.now c.utf8.text c.utf8.part e))
