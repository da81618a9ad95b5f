use Rattle.std.proofs.Common.{◌≡◌, ◌++◌, drop}
use Rattle.sigv4.proofs.pieces.push_pairs.Given as goal

-- the pairs so far and those that are due are all of them
abbrev pub invariant-loop-name : goal.invariant-loop-name
invariant-loop-name l = l.out ++ drop l.name-index l.pairs ≡ l.fn.out ++ l.pairs
