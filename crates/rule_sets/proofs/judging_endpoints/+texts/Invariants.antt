use Rattle.std.proofs.Common.{◌≡◌, ◌+◌, ◌*◌, drop}
use denote.Param.Weighed.{most}
use Rattle.json_doc.specs.declared.doc.Doc.{size-Doc}
use Rattle.rule_sets.specs.BadPlaces.{each_field, each_item}
use Rattle.rule_sets.specs.BadRules.{judged_texts}
use Rattle.rule_sets.proofs.judging_endpoints.+texts.Given as goal

abbrev pub decreases-judge_texts : goal.decreases-judge_texts
decreases-judge_texts l = 2 * goal.size-judge_texts l

abbrev pub decreases-judge_items : goal.decreases-judge_items
decreases-judge_items l = 2 * most size-Doc l.items.now + 1

abbrev pub decreases-judge_fields : goal.decreases-judge_fields
decreases-judge_fields l = 2 * most (λ p. size-Doc p.value) l.fields.now + 1

-- what is left is judged as all is
abbrev pub invariant-judge_items-loop-at : goal.invariant-judge_items-loop-at
invariant-judge_items-loop-at l = each_item (judged_texts l.names) l.at (drop l.at l.item-items) ≡ each_item (judged_texts l.names) 0 l.item-items

abbrev pub invariant-judge_fields-loop-field : goal.invariant-judge_fields-loop-field
invariant-judge_fields-loop-field l =
    each_field (λ key doc. judged_texts l.names doc) (drop l.field-index l.field-items) ≡ each_field (λ key doc. judged_texts l.names doc) l.field-items
