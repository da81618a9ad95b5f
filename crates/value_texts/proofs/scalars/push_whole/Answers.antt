use Rattle.std.proofs.Common.{◌≡◌, ◌++◌, subst, ◌∙◌}
use Rattle.std.specs.Prelude.{OnOk}
use Rattle.typed_value.proofs.Literals.{chars-signed}
use Rattle.value_texts.proofs.scalars.push_whole.Goals as goal

pub returns : goal.returns
returns c =
    let digits = chars-signed c.args.n c.as_str.result.now c.ranges.n (c.as_str.ensures.value ∙ c.in_ok-format.ensures.ok) in
    subst (λ text. OnOk c.push_str.result (c.push_str.new.self ≡ c.args.out.now ++ text)) digits c.push_str.ensures.ok
