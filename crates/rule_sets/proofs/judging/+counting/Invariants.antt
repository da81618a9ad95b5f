use Rattle.std.proofs.Common.{◌≡◌, ◌^◌, ◌-◌, min, ◌+◌, ◌*◌, ◌≤◌, map, drop}
use denote.Param.Weighed.{most}
use Rattle.std.specs.Prelude.{sum}
use Rattle.json_doc.specs.declared.doc.Doc.{size-Doc}
use Rattle.rule_sets.specs.BadRules.{leaves_of_rule}
use Rattle.rule_sets.proofs.judging.+counting.Given as goal

abbrev pub decreases-leaves_in : goal.decreases-leaves_in
decreases-leaves_in l = 3 * goal.size-leaves_in l

abbrev pub decreases-leaves_of : goal.decreases-leaves_of
decreases-leaves_of l = 3 * goal.size-leaves_of l

abbrev pub decreases-leaves_of_fields : goal.decreases-leaves_of_fields
decreases-leaves_of_fields l = 3 * most (λ p. size-Doc p.value) l.fields.now + 1

-- the leaves so far, and those of the rest
abbrev pub invariant-leaves_in-loop-rule : goal.invariant-leaves_in-loop-rule
invariant-leaves_in-loop-rule l = record {
  all : min (l.leaves + sum (map leaves_of_rule (drop l.rule-index l.rule-items))) (2 ^ 64 - 1) ≡ min (sum (map leaves_of_rule l.rule-items)) (2 ^ 64 - 1);
  few : l.leaves ≤ 2 ^ 64 - 1;
}
