use Rattle.std.proofs.Common.{◌<◌, ◌^◌, ◌++◌, ap, ◌∙◌, arith}
use Rattle.std.specs.Str.{chars}
use Rattle.resp_parser.proofs.Literals.{chars-decimal}
use Rattle.resp_parser.proofs.fault_texts.push_number.Goals as goal

pub returns : goal.returns
returns c =
    let small : c.args.number < 2 ^ 64 = omega arith in
    let digits = ap chars (c.as_str.ensures.value ∙ c.in_ok-format.ensures.ok) ∙ chars-decimal c.args.number small in
    c.in_ok-push_str.ensures.ok ∙ ap (λ ds. c.args.text.now ++ ds) digits
