use Rattle.std.proofs.Common.{◌≡◌, ◌++◌}
use Rattle.std.specs.Vec.Iter.{into_iter_items}
use Rattle.json_doc.specs.Gathered.{pairs_of}
use Rattle.json_doc.proofs.read_fields.spread.Given as goal

-- the pairs so far, and those that are left
abbrev pub invariant-loop-key : goal.invariant-loop-key
invariant-loop-key l = pairs_of l.map.entries ++ into_iter_items l.key-iterator ≡ l.fn.pairs
