use Rattle.std.proofs.Common.{◌≡◌, ◌+◌, ◌++◌, true, [], drop, map}
use Rattle.std.specs.Prelude.{Ok}
use Rattle.std.specs.Vec.Iter.{into_iter_items}
use Rattle.json_doc.specs.declared.doc.Doc as doc
use Rattle.json_doc.specs.Grammar.{put_all}
use Rattle.texts.specs.Calls.{◌>>=◌}
use Rattle.jmes_eval.specs.Inside.{entries_of, seen_doc, seen_values, seen_all}
use Rattle.jmes_eval.specs.Meaning.{meaning, piped, either, both, comparisons, behind, run, each, sieved, values_at, pairs_at, arguments_at, mapped, keyed}
use Rattle.jmes_eval.specs.Parts.{argument_with, chain_with, compared_with, operand_with, pair_with, step_with, steps_with}
use Rattle.jmes_eval.specs.Weights.{total, weight, step_weight, chain_weight, operand_weight, compared_weight, arguments_weight}
use Rattle.jmes_eval.proofs.KeysSoFar.{keyed_after}
use Rattle.jmes_eval.proofs.evaluate.+query.Given as goal

abbrev pub decreases-look : goal.decreases-look
decreases-look l = weight l.expr.now + 2

abbrev pub decreases-look_again : goal.decreases-look_again
decreases-look_again l = weight l.expr.now + 1

abbrev pub decreases-look_at : goal.decreases-look_at
decreases-look_at l = weight l.expr.now

abbrev pub decreases-look_through : goal.decreases-look_through
decreases-look_through l = total weight l.parts.now

abbrev pub decreases-either : goal.decreases-either
decreases-either l = total weight l.sides.now

abbrev pub decreases-both : goal.decreases-both
decreases-both l = total weight l.sides.now

abbrev pub decreases-comparisons : goal.decreases-comparisons
decreases-comparisons l = operand_weight (operand_with weight l.operand.now) + total (λ c. compared_weight (compared_with weight c)) l.others.now + 1

abbrev pub decreases-look_at_operand : goal.decreases-look_at_operand
decreases-look_at_operand l = operand_weight (operand_with weight l.operand.now)

abbrev pub decreases-look_along : goal.decreases-look_along
decreases-look_along l = chain_weight (chain_with weight l.chain.now)

abbrev pub decreases-flatten : goal.decreases-flatten
decreases-flatten l = total (λ s. step_weight (step_with weight s)) l.steps.now + 3

abbrev pub decreases-each_or_null : goal.decreases-each_or_null
decreases-each_or_null l = total (λ s. step_weight (step_with weight s)) l.steps.now + 2

abbrev pub decreases-walk : goal.decreases-walk
decreases-walk l = total (λ s. step_weight (step_with weight s)) l.steps.now

abbrev pub decreases-project : goal.decreases-project
decreases-project l = step_weight (step_with weight l.step.now) + total (λ s. step_weight (step_with weight s)) l.rest.now + 4

abbrev pub decreases-each : goal.decreases-each
decreases-each l = total (λ s. step_weight (step_with weight s)) l.steps.now + 1

abbrev pub decreases-filter : goal.decreases-filter
decreases-filter l = weight l.test.now + total (λ s. step_weight (step_with weight s)) l.steps.now + 3

abbrev pub decreases-each_passing : goal.decreases-each_passing
decreases-each_passing l = weight l.test.now + total (λ s. step_weight (step_with weight s)) l.steps.now + 2

abbrev pub decreases-passes : goal.decreases-passes
decreases-passes l = weight l.test.now + 1

abbrev pub decreases-go_a_step : goal.decreases-go_a_step
decreases-go_a_step l = step_weight (step_with weight l.step.now) + 4

abbrev pub decreases-part_of : goal.decreases-part_of
decreases-part_of l = step_weight (step_with weight l.step.now) + 3

abbrev pub decreases-part : goal.decreases-part
decreases-part l = step_weight (step_with weight l.step.now) + 1

abbrev pub decreases-list : goal.decreases-list
decreases-list l = total weight l.exprs.now

abbrev pub decreases-hash : goal.decreases-hash
decreases-hash l = total (λ p. weight p.value) l.fields.now

abbrev pub decreases-call : goal.decreases-call
decreases-call l = arguments_weight (map (argument_with weight) l.arguments.now) + 4

abbrev pub decreases-arguments_at : goal.decreases-arguments_at
decreases-arguments_at l = arguments_weight (map (argument_with weight) l.arguments.now)

abbrev pub decreases-mapped : goal.decreases-mapped
decreases-mapped l = weight l.expr.now + 1

abbrev pub decreases-by_keys : goal.decreases-by_keys
decreases-by_keys l = weight l.expr.now + 3

abbrev pub decreases-sort_by : goal.decreases-sort_by
decreases-sort_by l = weight l.expr.now + 2

abbrev pub decreases-min_by : goal.decreases-min_by
decreases-min_by l = weight l.expr.now + 2

abbrev pub decreases-max_by : goal.decreases-max_by
decreases-max_by l = weight l.expr.now + 2

abbrev pub decreases-keyed : goal.decreases-keyed
decreases-keyed l = weight l.expr.now + 1

abbrev pub invariant-look_through-loop-part : goal.invariant-look_through-loop-part
invariant-look_through-loop-part l = piped (map meaning (drop l.part-index l.parts)) (seen_doc l.at) ≡ piped (map meaning l.fn.parts) (seen_doc l.fn.at)

abbrev pub invariant-either-loop-side : goal.invariant-either-loop-side
invariant-either-loop-side l = either (map meaning (drop l.side-index l.sides)) (seen_doc l.at) l.doc ≡ either (map meaning l.fn.sides) doc.Null l.fn.doc

abbrev pub invariant-both-loop-side : goal.invariant-both-loop-side
invariant-both-loop-side l = both (map meaning (drop l.side-index l.sides)) (seen_doc l.at) l.doc ≡ both (map meaning l.fn.sides) (doc.Flag true) l.fn.doc

abbrev pub invariant-comparisons-loop-other : goal.invariant-comparisons-loop-other
invariant-comparisons-loop-other l = comparisons (map (compared_with meaning) (drop l.other-index l.others)) (seen_doc l.at) l.doc ≡ comparisons (map (compared_with meaning) l.fn.others) (seen_doc l.initial.at) l.fn.doc

abbrev pub invariant-look_along-loop-steps : goal.invariant-look_along-loop-steps
invariant-look_along-loop-steps l = behind (map (steps_with meaning) (drop l.steps-index l.steps-items)) (seen_doc l.at) ≡ behind (map (steps_with meaning) l.steps-items) (seen_doc l.initial.at)

abbrev pub invariant-walk-loop-i : goal.invariant-walk-loop-i
invariant-walk-loop-i l = run (steps_with meaning (drop l.i l.steps)) (seen_doc l.at) ≡ run (steps_with meaning l.fn.steps) (seen_doc l.fn.at)

abbrev pub invariant-each-loop-place : goal.invariant-each-loop-place
invariant-each-loop-place l =
    (each (run (steps_with meaning l.steps)) (seen_all (into_iter_items l.place-iterator)) >>= (λ xs. Ok (l.made ++ xs))) ≡ each (run (steps_with meaning l.fn.steps)) (seen_all l.fn.places.items)

abbrev pub invariant-each_passing-loop-place : goal.invariant-each_passing-loop-place
invariant-each_passing-loop-place l =
    (each (sieved (meaning l.test) (run (steps_with meaning l.steps))) (seen_all (into_iter_items l.place-iterator)) >>= (λ xs. Ok (l.made ++ xs))) ≡ each (sieved (meaning l.fn.test) (run (steps_with meaning l.fn.steps))) (seen_all l.fn.places.items)

abbrev pub invariant-list-loop-expr : goal.invariant-list-loop-expr
invariant-list-loop-expr l = (values_at (map meaning (drop l.expr-index l.exprs)) l.doc >>= (λ xs. Ok (l.made ++ xs))) ≡ values_at (map meaning l.fn.exprs) l.fn.doc

abbrev pub invariant-hash-loop-field : goal.invariant-hash-loop-field
invariant-hash-loop-field l =
    (pairs_at (map (pair_with meaning) (drop l.field-index l.fields)) l.doc >>= (λ qs. Ok (doc.Fields (put_all l.made qs)))) ≡ (pairs_at (map (pair_with meaning) l.fn.fields) l.fn.doc >>= (λ qs. Ok (doc.Fields (put_all [] qs))))

abbrev pub invariant-arguments_at-loop-argument : goal.invariant-arguments_at-loop-argument
invariant-arguments_at-loop-argument l =
    (arguments_at (map (argument_with meaning) (drop l.argument-index l.arguments)) l.doc >>= (λ xs. Ok (seen_values l.values.items ++ xs))) ≡ arguments_at (map (argument_with meaning) l.fn.arguments) l.fn.doc

abbrev pub invariant-mapped-loop-item : goal.invariant-mapped-loop-item
invariant-mapped-loop-item l = (mapped (meaning l.expr) (drop l.item-index l.items) >>= (λ xs. Ok (l.made ++ xs))) ≡ mapped (meaning l.fn.expr) l.items

abbrev pub invariant-keyed-loop-item : goal.invariant-keyed-loop-item
invariant-keyed-loop-item l = keyed_after (entries_of l.entries.items) (meaning l.expr) (drop l.item-index l.items) ≡ keyed (meaning l.fn.expr) l.fn.items
