use Rattle.std.proofs.Common.{ap, ◌∙◌}
use Rattle.std.specs.Str.{chars}
use Rattle.sigv4.proofs.PlainDigits.{chars-encode_lower}
use Rattle.sigv4.proofs.pieces.push_hex.Goals as goal

pub returns : goal.returns
returns c =
    let digits = ap chars (c.as_str.ensures.value ∙ c.in_ok-digits.ensures) ∙ chars-encode_lower c.args.bytes.now in
    rw digits at c.push_str.ensures.ok
