use Rattle.std.proofs.Common.{◌≡◌, ◌++◌, ap, subst, ◌∙◌, arith}
use Rattle.std.specs.Prelude.{OnOk}
use Rattle.std.specs.Str.{chars}
use Rattle.typed_value.proofs.Literals.{chars-decimal}
use Rattle.serializer.proofs.messages.push_number.Goals as goal

pub returns : goal.returns
returns c =
    let digits = ap chars (c.as_str.ensures.value ∙ c.in_ok-format.ensures.ok) ∙ chars-decimal c.args.n (omega arith) in
    subst (λ text. OnOk c.push_str.result (c.push_str.new.self ≡ c.args.out.now ++ text)) digits c.push_str.ensures.ok
