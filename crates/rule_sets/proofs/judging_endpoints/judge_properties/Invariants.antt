use Rattle.std.proofs.Common.{◌≡◌, drop}
use Rattle.rule_sets.specs.BadRules.{judged_property}
use Rattle.rule_sets.specs.BadPlaces.{each_field}
use Rattle.rule_sets.proofs.judging_endpoints.judge_properties.Given as goal

-- what is left is judged as all is
abbrev pub invariant-loop-field : goal.invariant-loop-field
invariant-loop-field l = each_field (judged_property l.names) (drop l.field-index l.field-items) ≡ each_field (judged_property l.names) l.field-items
