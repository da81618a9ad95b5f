use Rattle.std.proofs.Common.{refl}
use Rattle.sigv4.proofs.authorization.authorization.Goals as goal

pub returns : goal.returns
returns c =
    rw (
      c.in_ok-push_hex.ensures,
      c.as_slice.ensures,
      c.in_ok-signature.ensures,
      c.in_ok-push_ascii-4.ensures.ok,
      c.in_ok-push_joined.ensures,
      c.in_ok-push_ascii-3.ensures.ok,
      c.in_ok-push_scope.ensures,
      c.in_ok-push_ascii-2.ensures.ok,
      c.in_ok-push_str.ensures.ok,
      c.as_str.ensures.value,
      c.in_ok-push_ascii.ensures.ok,
      c.new-value.ensures,
    )
    refl
