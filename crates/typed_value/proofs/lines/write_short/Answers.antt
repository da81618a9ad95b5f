use Rattle.std.proofs.Common.{◌≡◌, ◌++◌, ap, subst, ◌∙◌, arith}
use Rattle.std.specs.Fmt.{decimal, signed_decimal}
use Rattle.std.specs.Prelude.{OnOk, codes}
use Rattle.std.specs.Str.{chars}
use Rattle.typed_value.specs.Lines.{named}
use Rattle.typed_value.proofs.Behind.{six-behind}
use Rattle.typed_value.proofs.Literals.{chars-decimal, chars-signed}
use Rattle.typed_value.proofs.lines.write_short.Goals as goal

pub returns : goal.returns
returns c =
    let digits = ap chars (c.as_str.ensures.value ∙ c.in_ok-format.ensures.ok) ∙ chars-decimal c.args.count (omega arith) in
    let least = chars-signed c.args.least c.as_str-2.result.now c.ranges.least (c.as_str-2.ensures.value ∙ c.in_ok-format-2.ensures.ok) in
    let fourth = c.in_ok-push_str.ensures.ok ∙ ap (λ cs. c.push_ascii-2.new.self ++ cs) digits in
    let whole = six-behind c.args.out.now (codes "Invalid length for parameter ") (named c.args.path.now) (codes ", value: ") (decimal c.args.count) (codes ", valid min length: ") (signed_decimal c.args.least)
    c.push_ascii.new.self c.write_path.new.out c.push_ascii-2.new.self c.push_str.new.self c.push_ascii-3.new.self
    c.in_ok-push_ascii.ensures.ok c.in_ok-write_path.ensures c.in_ok-push_ascii-2.ensures.ok fourth c.in_ok-push_ascii-3.ensures.ok in
    subst (λ text. OnOk c.push_str-2.result (c.push_str-2.new.self ≡ text)) (ap (λ cs. c.push_ascii-3.new.self ++ cs) least ∙ whole) c.push_str-2.ensures.ok
