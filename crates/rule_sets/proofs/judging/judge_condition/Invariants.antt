use Rattle.std.proofs.Common.{◌≡◌, drop}
use Rattle.rule_sets.specs.BadRules.{judged_condition_part}
use Rattle.rule_sets.specs.BadPlaces.{each_field}
use Rattle.rule_sets.proofs.judging.judge_condition.Given as goal

-- what is left is judged as all is
abbrev pub invariant-loop-field : goal.invariant-loop-field
invariant-loop-field l = each_field (judged_condition_part l.names l.function) (drop l.field-index l.field-items) ≡ each_field (judged_condition_part l.names l.function) l.field-items
