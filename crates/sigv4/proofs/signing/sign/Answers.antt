use Rattle.std.proofs.Common.{w64}
use Rattle.std.proofs.lemmas.Int.{to_z-of_z}
use Rattle.sigv4.proofs.signing.sign.Goals as goal

pub returns-clause-outside : goal.returns-clause-outside
returns-clause-outside c = λ no. absurd (no (rw (to_z-of_z w64 c.args.now c.ranges.now) at c.in_ok-added.ensures.within))
