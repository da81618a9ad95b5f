use Rattle.std.proofs.Common.{subst, ◌∙◌}
use Rattle.std.specs.Str.{chars}
use Rattle.texts.specs.Calls.{Finds}
use Rattle.texts.specs.Marks.{without_first}
use Rattle.shape_values.proofs.Marked.{begins}
use Rattle.shape_values.proofs.text_values.begins_list.Goals as goal

pub returns : goal.returns
returns c =
    c.is_some.ensures ∙ begins (λ rest. chars rest.now) 91 c.args.text.now c.without_first.result
    (subst (λ cs. Finds (λ rest. chars rest.now) c.without_first.result (without_first 91 cs)) c.as_str.ensures.value c.without_first.ensures)
