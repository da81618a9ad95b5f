use Rattle.std.proofs.Common.{w64, refl}
use Rattle.std.proofs.lemmas.Int.{to_z-of_z}
use Rattle.sigv4.proofs.signing.signed_headers.Goals as goal

pub returns-clause-signed : goal.returns-clause-signed
returns-clause-signed c = rw (rw (to_z-of_z w64 c.args.now c.ranges.now) at c.in-Some.ensures.value) at c.in_ok-added.ensures

pub returns-clause-within : goal.returns-clause-within
returns-clause-within c = rw (to_z-of_z w64 c.args.now c.ranges.now) at (c.in-Some.ensures.range.0 refl)

pub returns-clause-outside : goal.returns-clause-outside
returns-clause-outside c = λ no. absurd (no (rw (to_z-of_z w64 c.args.now c.ranges.now) at (c.in-Some.ensures.range.0 refl)))
