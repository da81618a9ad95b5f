use Rattle.std.proofs.Common.{◌≡◌, [], drop, map}
use Rattle.endpoint_rules.specs.Endpoints.{first_answer}
use Rattle.rule_sets.specs.Rules.{seen_leaf, seen_leaves}
use Rattle.endpoint_rules.proofs.resolving.first_answer.Given as goal

-- no leaf so far has an answer
abbrev pub invariant-loop-leaf : goal.invariant-loop-leaf
invariant-loop-leaf l =
    first_answer (record { partitions = l.partitions; given = l.given; assigned = [] }) (map (seen_leaf l.rules.conditions) (drop l.leaf-index l.leaf-items))
    ≡ first_answer (record { partitions = l.partitions; given = l.given; assigned = [] }) (seen_leaves l.rules)
