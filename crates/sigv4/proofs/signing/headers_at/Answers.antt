use Rattle.std.proofs.Common.{◌≡◌, ◌++◌, ◌∷◌, [], ap, map, append_assoc, sym}
use Rattle.std.specs.Prelude.{codes}
use Rattle.sigv4.specs.Canonical.{canonical_request}
use Rattle.sigv4.specs.Headers.{canonical_headers}
use Rattle.sigv4.specs.Parameters.{shown}
use Rattle.sigv4.specs.Signature.{stamp, stamped, authorization_of, signature_of}
use Rattle.sigv4.proofs.signing.headers_at.Goals as goal

pub returns : goal.returns
returns c =
    let message = c.args.message.now in
    let signer = c.args.signer.now in
    let seconds = c.args.seconds in
    let query = map shown c.in_ok-query.query.items in
    let names = c.in_ok-headers.headers.names in
    let put = stamp signer seconds in
    let request = canonical_request (stamped message signer seconds) query names in
    let value = authorization_of signer seconds names (signature_of signer seconds request) in
    let fields : c.in_ok-headers.headers.fields ≡ canonical_headers (message.headers ++ put) =
    rw (c.as_slice-2.ensures, c.as_slice-3.ensures, c.in_ok-added.ensures) at c.in_ok-headers.ensures.fields in
    record {
      query = query;
      names = names;
      query_is = rw c.as_slice.ensures at c.in_ok-query.ensures;
      names_are = rw (c.as_slice-2.ensures, c.as_slice-3.ensures, c.in_ok-added.ensures) at c.in_ok-headers.ensures.names;
      signed_is = rw (
        c.in_ok-push_header.ensures,
        c.in_ok-value.ensures,
        c.as_slice-5.ensures,
        c.in_ok-request.ensures,
        c.as_slice-4.ensures.value,
        fields,
        c.in_ok-added.ensures,
      )
          (ap (λ headers. record message { headers = headers }) (sym (append_assoc message.headers put ((codes "Authorization", value) ∷ []))));
    }
