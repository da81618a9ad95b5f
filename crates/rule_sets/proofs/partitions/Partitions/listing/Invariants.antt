use Rattle.std.proofs.Common.{◌≡◌, drop}
use Rattle.std.specs.Str.{chars}
use Rattle.rule_sets.specs.Partitions.{first_listing}
use Rattle.rule_sets.proofs.partitions.Partitions.listing.Given as goal

-- none of the partitions so far is the one
abbrev pub invariant-loop-partition : goal.invariant-loop-partition
invariant-loop-partition l = first_listing (chars l.region) (drop l.partition-index l.partition-items) ≡ first_listing (chars l.region) l.fn.self
