use Rattle.std.proofs.Common.{◌≡◌, ◌++◌}
use Rattle.json_doc.specs.Gathered.{pairs_of}
use Rattle.jmes_eval.proofs.merging.gathered.Given as goal

-- the pairs so far, and those that are left
abbrev pub invariant-loop-key : goal.invariant-loop-key
invariant-loop-key l = l.pairs ++ pairs_of l.key-iterator ≡ pairs_of l.fn.table.entries
