use Rattle.std.proofs.Common.{◌≡◌, drop}
use Rattle.rule_sets.specs.BadPartitions.{judged_file_part}
use Rattle.rule_sets.specs.BadPlaces.{each_field}
use Rattle.rule_sets.proofs.judging_partitions.judge_partitions.Given as goal

-- what is left is judged as all is
abbrev pub invariant-loop-field : goal.invariant-loop-field
invariant-loop-field l = each_field judged_file_part (drop l.field-index l.field-items) ≡ each_field judged_file_part l.field-items
