use Rattle.std.proofs.Common.{◌≡◌, drop}
use Rattle.rule_sets.specs.BadRules.{judged_parameter}
use Rattle.rule_sets.specs.BadPlaces.{each_field}
use Rattle.rule_sets.proofs.judging.judge_parameters.Given as goal

-- what is left is judged as all is
abbrev pub invariant-loop-field : goal.invariant-loop-field
invariant-loop-field l = each_field (λ key parameter. judged_parameter parameter) (drop l.field-index l.field-items) ≡ each_field (λ key parameter. judged_parameter parameter) l.field-items
