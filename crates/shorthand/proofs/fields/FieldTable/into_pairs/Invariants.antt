use Rattle.std.proofs.Common.{◌≡◌, ◌++◌}
use Rattle.shorthand.specs.Table.{pairs_of}
use Rattle.shorthand.proofs.fields.FieldTable.into_pairs.Given as goal

-- the pairs so far, and those that are left
abbrev pub invariant-loop-key : goal.invariant-loop-key
invariant-loop-key l = l.pairs ++ pairs_of l.key-iterator ≡ l.fn.self
