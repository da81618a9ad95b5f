use Rattle.std.proofs.Common.{◌≡◌, ◌<◌, length}
use Rattle.moments.specs.Inside.{more_digits}
use Rattle.moments.proofs.digits.number.Given as goal

abbrev pub invariant-loop-more : goal.invariant-loop-more
invariant-loop-more l = (more_digits 0 l.bytes ≡ more_digits l.number l.rest) × (l.number < 253402300800)

abbrev pub decreases-loop-more : goal.decreases-loop-more
decreases-loop-more l = length l.rest
