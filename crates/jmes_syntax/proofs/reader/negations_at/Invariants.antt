use Rattle.std.proofs.Common.{◌≡◌, ◌+◌, length}
use Rattle.jmes_syntax.specs.Scan.{negations_at}
use Rattle.jmes_syntax.proofs.reader.negations_at.Given as goal

-- those that were counted, and those in front of the rest
abbrev pub invariant-loop-more : goal.invariant-loop-more
invariant-loop-more l = record {
  counted : negations_at l.fn.tokens ≡ (l.count + (negations_at l.rest).0, (negations_at l.rest).1);
  room : l.count + length l.rest ≡ length l.fn.tokens;
}

abbrev pub decreases-loop-more : goal.decreases-loop-more
decreases-loop-more l = length l.rest
