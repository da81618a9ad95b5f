use Rattle.std.proofs.Common.{◌≡◌, drop, false}
use Rattle.jmes_syntax.specs.Delimited.{delimited, fronted}
use Rattle.jmes_syntax.proofs.delimited.delimited.Given as goal

-- the value so far, and what the bytes behind it give
abbrev pub invariant-loop-at : goal.invariant-loop-at
invariant-loop-at l = fronted l.value (delimited l.quote l.in_pair (drop l.at l.bytes)) ≡ delimited l.quote false l.bytes
