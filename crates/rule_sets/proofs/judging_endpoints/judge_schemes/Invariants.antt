use Rattle.std.proofs.Common.{◌≡◌, drop}
use Rattle.rule_sets.specs.BadRules.{judged_scheme}
use Rattle.rule_sets.specs.BadPlaces.{each_item}
use Rattle.rule_sets.proofs.judging_endpoints.judge_schemes.Given as goal

-- what is left is judged as all is
abbrev pub invariant-loop-at : goal.invariant-loop-at
invariant-loop-at l = each_item (judged_scheme l.names) l.at (drop l.at l.scheme-items) ≡ each_item (judged_scheme l.names) 0 l.scheme-items
