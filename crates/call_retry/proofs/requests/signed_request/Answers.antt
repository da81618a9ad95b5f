use Rattle.std.proofs.Common.{◌∙◌, ap, w64}
use Rattle.http_exchange.specs.Wire.{wire_with}
use Rattle.sigv4.specs.Signature.{with_headers}
use Rattle.std.proofs.lemmas.Int.{to_z-of_z}
use Rattle.call_retry.proofs.requests.signed_request.Goals as goal

pub returns : goal.returns
returns c =
    let message = c.args.message.now in (
      rw (to_z-of_z w64 c.args.now c.ranges.now) at c.in_ok-added.ensures.within,
      (
        with_headers message c.in_ok-added.added,
        rw (to_z-of_z w64 c.args.now c.ranges.now) at c.in_ok-added.ensures.signed,
        c.in_ok-wire_with.ensures ∙ ap (wire_with message) c.as_slice.ensures,
      ),
    )
