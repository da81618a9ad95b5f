use Rattle.std.proofs.Common.{◌≡◌, ◌++◌, drop}
use Rattle.rule_sets.proofs.reading.longer.Given as goal

-- the numbers so far, and the rest
abbrev pub invariant-loop-number : goal.invariant-loop-number
invariant-loop-number l = l.made ++ drop l.number-index l.number-items ≡ l.number-items
