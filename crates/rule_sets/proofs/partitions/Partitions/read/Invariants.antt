use Rattle.std.proofs.Common.{◌≡◌, ◌++◌, drop, map}
use Rattle.rule_sets.specs.Partitions.{partition_of}
use Rattle.rule_sets.proofs.partitions.Partitions.read.Given as goal

-- the partitions so far, and those of the rest
abbrev pub invariant-loop-item : goal.invariant-loop-item
invariant-loop-item l = l.partitions ++ map partition_of (drop l.item-index l.item-items) ≡ map partition_of l.item-items
