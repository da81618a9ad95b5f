use Rattle.std.proofs.Common.{ap, ◌∙◌}
use Rattle.std.specs.Prelude.{encode_utf8_all}
use Rattle.hex.specs.Hex.{encode_lower}
use Rattle.sigv4.specs.Hmac.{hmac_of}
use Rattle.sigv4.specs.Signature.{signing_key}
use Rattle.sigv4.proofs.authorization.signature.Goals as goal

pub returns : goal.returns
returns c =
    let key = c.as_slice.ensures ∙ c.in_ok-key.ensures in
    let text = c.as_bytes.ensures.value ∙ c.as_str.ensures.bytes ∙ ap encode_utf8_all c.in_ok-text.ensures in
    ap encode_lower
    (c.keyed_hash.ensures ∙ ap (λ k. hmac_of k c.as_bytes.result.now) key
    ∙ ap (hmac_of (signing_key c.args.signer.now c.args.seconds)) text)
