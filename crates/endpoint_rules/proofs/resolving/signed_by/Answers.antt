use Rattle.std.proofs.Common.{refl}
use Rattle.std.specs.Prelude.{codes}
use Rattle.texts.proofs.Texts.{chars_ascii}
use Rattle.endpoint_rules.proofs.resolving.signed_by.Goals as goal

pub returns : goal.returns
returns c =
    rw (
      c.in_ok-signing_name.ensures,
      c.in_ok-signing_region.ensures,
      c.member.ensures,
      c.member-2.ensures,
      chars_ascii (codes "signingName") refl,
      chars_ascii (codes "signingRegion") refl,
    )
    refl
