use Rattle.std.proofs.Common.{◌≡◌, ◌++◌, drop, map}
use Rattle.rule_sets.specs.Rules.{condition_of}
use Rattle.rule_sets.proofs.reading.read_conditions.Given as goal

-- the conditions so far, and those of the rest
abbrev pub invariant-loop-condition : goal.invariant-loop-condition
invariant-loop-condition l = l.conditions ++ map condition_of (drop l.condition-index l.condition-items) ≡ map condition_of l.condition-items
