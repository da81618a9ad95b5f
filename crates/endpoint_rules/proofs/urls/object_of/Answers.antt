use Rattle.std.proofs.Common.{refl}
use Rattle.endpoint_rules.proofs.urls.object_of.Goals as goal

pub returns : goal.returns
returns c =
    rw (
      c.in_ok-put-2.ensures,
      c.in_ok-put.ensures,
      c.in_ok-put_text-3.ensures,
      c.in_ok-put_text-2.ensures,
      c.in_ok-put_text.ensures,
      c.new-parts.ensures,
      c.scheme.ensures.value,
      c.authority.ensures,
      c.path.ensures.value,
      c.in_ok-slashed.ensures,
      c.path-2.ensures.value,
      c.is_address.ensures,
    )
    refl
