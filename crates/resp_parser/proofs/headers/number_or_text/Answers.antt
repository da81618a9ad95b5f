use Rattle.std.proofs.Common.{◌≡◌, Some, refl, sym, ap, ◌∙◌, rules}
use Rattle.std.specs.Prelude.{encode_utf8_all}
use Rattle.json_doc.specs.DecimalValue.{signed}
use Rattle.resp_parser.specs.Headers.{whole_of}
use Rattle.resp_parser.proofs.headers.number_or_text.Goals as goal

pub returns-in-Some : goal.returns-in-Some
returns-in-Some c =
    let same : whole_of (encode_utf8_all c.args.text.now) ≡ Some c.in-Some.number = ap whole_of (sym c.as_str.ensures.bytes) ∙ sym c.whole_of.ensures ∙ c.in-Some.is in
    let value : signed c.of.result.is_negative c.of.result.magnitude ≡ c.in-Some.number = search rules in
    rw same (c.of.result, refl, value, c.of.ensures.whole)
