use Rattle.std.proofs.Common.{◌≡◌, drop}
use Rattle.rule_sets.specs.BadRules.{judged_conditions_from}
use Rattle.rule_sets.proofs.KnownNames.{Begins}
use Rattle.rule_sets.proofs.judging.judge_conditions.Given as goal

-- what is left is judged as all is, and the names around the conditions stand before theirs
abbrev pub invariant-loop-at : goal.invariant-loop-at
invariant-loop-at l = record {
  begins : Begins l.fn.names l.names;
  due : judged_conditions_from l.at l.names (drop l.at l.condition-items) ≡ judged_conditions_from 0 l.fn.names l.condition-items;
}
