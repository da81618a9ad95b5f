use Rattle.std.proofs.Common.{◌≡◌, drop}
use Rattle.std.specs.Str.{chars}
use Rattle.rule_sets.specs.Partitions.{first_named}
use Rattle.rule_sets.proofs.partitions.Partitions.named.Given as goal

-- none of the partitions so far is the one
abbrev pub invariant-loop-partition : goal.invariant-loop-partition
invariant-loop-partition l = first_named (chars l.id) (drop l.partition-index l.partition-items) ≡ first_named (chars l.id) l.fn.self
