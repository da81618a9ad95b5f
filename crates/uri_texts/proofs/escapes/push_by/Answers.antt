use Rattle.std.proofs.Common.{◌≡◌, refl, ap, ◌∙◌}
use Rattle.std.specs.Str.{chars}
use Rattle.std.proofs.lemmas.Str.{chars-IsAscii}
use Rattle.percent_encoding.specs.Percent.{percent_encode}
use Rattle.percent_encoding.proofs.PercentLemmas.{IsAscii-percent_encode}
use Rattle.uri_texts.proofs.escapes.push_by.Goals as goal

pub returns : goal.returns
returns c =
    let bytes = c.args.bytes.now in
    let set = c.args.set in
    let text : c.as_str.result.now ≡ percent_encode set bytes =
    rw (c.as_str.ensures.value, c.in_ok-append_to.ensures.ok, c.new-escapes.ensures.bytes, c.percent_encode.ensures.text) refl in
    rw (ap chars text ∙ chars-IsAscii (percent_encode set bytes) (IsAscii-percent_encode set bytes)) at c.push_str.ensures.ok
