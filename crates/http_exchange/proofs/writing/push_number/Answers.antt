use Rattle.std.proofs.Common.{◌++◌, ap, ◌∙◌, arith}
use Rattle.std.specs.Str.{chars}
use Rattle.std.specs.Fmt.{decimal}
use Rattle.std.proofs.lemmas.Str.{chars-IsAscii}
use Rattle.std.proofs.lemmas.Fmt.{IsAscii-decimal}
use Rattle.http_exchange.proofs.writing.push_number.Goals as goal

pub returns : goal.returns
returns c =
    let plain = chars-IsAscii (decimal c.args.n) (IsAscii-decimal c.args.n (omega arith)) in
    c.in_ok-push_str.ensures.ok ∙ ap (λ cs. c.args.head.now ++ cs) (ap chars (c.as_str.ensures.value ∙ c.in_ok-digits.ensures.ok) ∙ plain)
