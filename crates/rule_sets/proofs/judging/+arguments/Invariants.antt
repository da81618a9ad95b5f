use Rattle.std.proofs.Common.{◌≡◌, ◌+◌, ◌*◌, drop}
use denote.Param.Weighed.{most}
use Rattle.json_doc.specs.declared.doc.Doc.{size-Doc}
use Rattle.rule_sets.specs.BadPlaces.{each_field, each_item}
use Rattle.rule_sets.specs.BadRules.{argument_step, judged_argument, judged_call_part}
use Rattle.rule_sets.specs.Trees.{told}
use Rattle.rule_sets.proofs.judging.+arguments.Given as goal

abbrev pub decreases-judge_argument : goal.decreases-judge_argument
decreases-judge_argument l = 5 * goal.size-judge_argument l

abbrev pub decreases-judge_call : goal.decreases-judge_call
decreases-judge_call l = 5 * most (λ p. size-Doc p.value) l.fields.now + 4

abbrev pub decreases-judge_call_parts : goal.decreases-judge_call_parts
decreases-judge_call_parts l = 5 * most (λ p. size-Doc p.value) l.fields.now + 3

abbrev pub decreases-judge_call_part : goal.decreases-judge_call_part
decreases-judge_call_part l = 5 * goal.size-judge_call_part l + 2

abbrev pub decreases-judge_arguments : goal.decreases-judge_arguments
decreases-judge_arguments l = 5 * goal.size-judge_arguments l + 1

abbrev pub decreases-judge_each_argument : goal.decreases-judge_each_argument
decreases-judge_each_argument l = 5 * most size-Doc l.arguments.now + 1

-- what is left is judged as all is
abbrev pub invariant-judge_call_parts-loop-field : goal.invariant-judge_call_parts-loop-field
invariant-judge_call_parts-loop-field l =
    each_field (λ key doc. judged_call_part l.names l.function key (told argument_step doc)) (drop l.field-index l.field-items)
    ≡ each_field (λ key doc. judged_call_part l.names l.function key (told argument_step doc)) l.field-items

abbrev pub invariant-judge_each_argument-loop-at : goal.invariant-judge_each_argument-loop-at
invariant-judge_each_argument-loop-at l =
    each_item (judged_argument l.names) l.at (drop l.at l.argument-items) ≡ each_item (judged_argument l.names) 0 l.argument-items
