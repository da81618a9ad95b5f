use Rattle.std.proofs.Common.{◌≡◌, drop}
use Rattle.rule_sets.specs.Names.{with_conditions}
use Rattle.rule_sets.proofs.judging.add_all.Given as goal

-- the names so far, and those of the rest
abbrev pub invariant-loop-condition : goal.invariant-loop-condition
invariant-loop-condition l = with_conditions (drop l.condition-index l.conditions) l.names ≡ with_conditions l.conditions l.fn.names
