use Rattle.std.proofs.Common.{◌≡◌, drop}
use Rattle.rule_sets.specs.BadPartitions.{judged_partition}
use Rattle.rule_sets.specs.BadPlaces.{each_item}
use Rattle.rule_sets.proofs.judging_partitions.judge_list.Given as goal

-- what is left is judged as all is
abbrev pub invariant-loop-at : goal.invariant-loop-at
invariant-loop-at l = each_item judged_partition l.at (drop l.at l.item-items) ≡ each_item judged_partition 0 l.item-items
