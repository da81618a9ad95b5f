use Rattle.std.proofs.Common.{◌≡◌, ◌++◌, refl}
use Rattle.std.specs.Prelude.{codes, encode_utf8_all}
use Rattle.time_texts.specs.Texts.{basic_date}
use Rattle.sigv4.specs.Signature.{keyed}
use Rattle.sigv4.proofs.authorization.signing_key.Goals as goal

pub returns : goal.returns
returns c =
    let signer = c.args.signer.now in
    let secret = codes "AWS4" ++ signer.secret in
    let date = basic_date c.args.seconds in
    let key_bytes : c.as_bytes.result.now ≡ encode_utf8_all secret =
    rw (c.as_bytes.ensures.value, c.as_str-2.ensures.bytes, c.in_ok-push_str.ensures.ok, c.in_ok-push_ascii.ensures.ok, c.new-secret.ensures, c.as_str.ensures.value) refl in
    let date_bytes : c.as_bytes-2.result.now ≡ encode_utf8_all date =
    rw (c.as_bytes-2.ensures.value, c.as_str-3.ensures.bytes, c.in_ok-push_basic_date.ensures, c.new-date.ensures) refl in
    let dated : c.keyed_hash-dated.result ≡ keyed (encode_utf8_all secret) date = rw (c.keyed_hash-dated.ensures, key_bytes, date_bytes) refl in
    let regional : c.keyed_hash-regional.result ≡ keyed (keyed (encode_utf8_all secret) date) signer.region =
    rw (c.keyed_hash-regional.ensures, c.as_slice.ensures, dated, c.as_bytes-3.ensures.value, c.as_str-4.ensures.bytes) refl in
    let serving : c.keyed_hash-serving.result ≡ keyed (keyed (keyed (encode_utf8_all secret) date) signer.region) signer.service =
    rw (c.keyed_hash-serving.ensures, c.as_slice-2.ensures, regional, c.as_bytes-4.ensures.value, c.as_str-5.ensures.bytes) refl in
    rw (c.keyed_hash.ensures, c.as_slice-3.ensures, serving) refl
