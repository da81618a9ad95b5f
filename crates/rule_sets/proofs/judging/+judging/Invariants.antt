use Rattle.std.proofs.Common.{◌≡◌, ◌+◌, ◌*◌, drop}
use denote.Param.Weighed.{most}
use Rattle.json_doc.specs.declared.doc.Doc.{size-Doc}
use Rattle.rule_sets.specs.BadPlaces.{each_field, each_item}
use Rattle.rule_sets.specs.BadRules.{judged_rule, judged_rule_part, rule_step}
use Rattle.rule_sets.specs.Trees.{told}
use Rattle.rule_sets.proofs.judging.+judging.Given as goal

abbrev pub decreases-judge_list : goal.decreases-judge_list
decreases-judge_list l = 8 * goal.size-judge_list l

abbrev pub decreases-judge_each_rule : goal.decreases-judge_each_rule
decreases-judge_each_rule l = 8 * most size-Doc l.rules.now + 7

abbrev pub decreases-judge_rule : goal.decreases-judge_rule
decreases-judge_rule l = 8 * goal.size-judge_rule l + 6

abbrev pub decreases-judge_rule_fields : goal.decreases-judge_rule_fields
decreases-judge_rule_fields l = 8 * most (λ p. size-Doc p.value) l.fields.now + 6

abbrev pub decreases-judge_rule_parts : goal.decreases-judge_rule_parts
decreases-judge_rule_parts l = 8 * most (λ p. size-Doc p.value) l.fields.now + 5

abbrev pub decreases-judge_rule_part : goal.decreases-judge_rule_part
decreases-judge_rule_part l = 8 * size-Doc l.field.now.value + 4

abbrev pub decreases-judge_answer : goal.decreases-judge_answer
decreases-judge_answer l = 8 * size-Doc l.doc.now + 3

abbrev pub decreases-judge_by_kind : goal.decreases-judge_by_kind
decreases-judge_by_kind l = 8 * goal.size-judge_by_kind l + 2

-- what is left is judged as all is, below the same names
abbrev pub invariant-judge_each_rule-loop-at : goal.invariant-judge_each_rule-loop-at
invariant-judge_each_rule-loop-at l = record {
  kept : l.names ≡ l.fn.names;
  due : each_item (judged_rule l.fn.names) l.at (drop l.at l.rule-items) ≡ each_item (judged_rule l.fn.names) 0 l.rule-items;
}

abbrev pub invariant-judge_rule_parts-loop-field : goal.invariant-judge_rule_parts-loop-field
invariant-judge_rule_parts-loop-field l = record {
  kept : l.names ≡ l.fn.names;
  due : each_field (λ key doc. judged_rule_part l.kind l.conditions l.fn.names key (told rule_step doc)) (drop l.field-index l.field-items)
      ≡ each_field (λ key doc. judged_rule_part l.kind l.conditions l.fn.names key (told rule_step doc)) l.field-items;
}
