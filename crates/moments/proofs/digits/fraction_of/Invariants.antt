use Rattle.std.proofs.Common.{◌≡◌, ◌≤◌, ◌+◌, ◌*◌, length}
use Rattle.moments.specs.Inside.{decimals}
use Rattle.moments.proofs.digits.fraction_of.Given as goal

abbrev pub invariant-loop-more : goal.invariant-loop-more
invariant-loop-more l = (decimals 100000 0 l.bytes ≡ decimals l.place l.micros l.rest) × (l.micros + l.place * 10 ≤ 1000000)

abbrev pub decreases-loop-more : goal.decreases-loop-more
decreases-loop-more l = length l.rest
