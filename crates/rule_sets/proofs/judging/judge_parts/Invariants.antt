use Rattle.std.proofs.Common.{◌≡◌, drop}
use Rattle.rule_sets.specs.BadRules.{judged_part}
use Rattle.rule_sets.specs.BadPlaces.{each_field}
use Rattle.rule_sets.proofs.judging.judge_parts.Given as goal

-- what is left is judged as all is, below the same names
abbrev pub invariant-loop-field : goal.invariant-loop-field
invariant-loop-field l = record {
  kept : l.names ≡ l.fn.names;
  due : each_field (judged_part l.fn.names) (drop l.field-index l.field-items) ≡ each_field (judged_part l.fn.names) l.field-items;
}
