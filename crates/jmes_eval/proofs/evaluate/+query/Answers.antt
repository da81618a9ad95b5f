use Rattle.std.proofs.Common.{map, subst, sym, ap, ◌∙◌}
use Rattle.jmes_eval.specs.Answers.{is_memory}
use Rattle.texts.specs.Calls.{◌>>=◌, Answers}
use Rattle.jmes_eval.specs.Meaning.{meaning, chain_of, compare_of, run}
use Rattle.jmes_eval.specs.Parts.{chain_with, compared_with, operand_with, steps_with}
use Rattle.jmes_eval.specs.Inside.{seen_doc}
use Rattle.jmes_eval.proofs.Meanings.{meaning-Compare}
use Rattle.jmes_eval.proofs.Segments.{segment, segments, segments_on, segments_fail, came, ends_so}
use Rattle.jmes_eval.proofs.evaluate.+query.Goals as goal

pub look_at-returns-in-Compare : goal.look_at-returns-in-Compare
look_at-returns-in-Compare t c =
    let o = c.in-Compare.operand in
    let cs = c.in-Compare.others in
    let told = subst (λ xs. Answers is_memory seen_doc c.comparisons.result (compare_of (operand_with meaning o) (map (compared_with meaning) xs) c.args.doc.now)) c.as_slice-in-Compare.ensures c.comparisons.ensures in
    rw (c.in-Compare.is, meaning-Compare o cs) told

pub look_along-loop-steps-preserved : goal.look_along-loop-steps-preserved
look_along-loop-steps-preserved t c =
    segments_on c.as_slice-steps-items.result.now c.loop-steps.steps-index c.steps-item.result (seen_doc c.loop-steps.at) (seen_doc c.in_ok-at-2.at)
    (segments c.as_slice-steps-items.result.now (seen_doc c.in_ok-at.at)) c.loop-steps-test.true c.steps-item.is c.in_ok-at-2.ensures c.loop-steps.invariant

pub look_along-returns-in_err-at-2 : goal.look_along-returns-in_err-at-2
look_along-returns-in_err-at-2 t c =
    let chain = c.args.chain.now in
    let all = c.as_slice-steps-items.result.now in
    let start = seen_doc c.in_ok-at.at in
    ends_so seen_doc seen_doc (segment c.steps-item.result (seen_doc c.loop-steps.at)) (chain_of (chain_with meaning chain) (seen_doc c.args.at)) c.from_residual-in_err-at-2.result c.in_err-at-2.field-0.0
    (came c.from_residual-in_err-at-2.result c.in_err-at-2.field-0.0 c.from_residual-in_err-at-2.ensures) c.in_err-at-2.ensures
    (λ fails.
    ap (λ ys. run (steps_with meaning ys) (seen_doc c.args.at) >>= segments chain.flattened) (sym c.as_slice.ensures)
    ∙ ap (λ r. r >>= segments chain.flattened) c.in_ok-at.ensures
    ∙ ap (λ ys. segments ys start) (sym c.as_slice-steps-items.ensures)
    ∙ segments_fail all c.loop-steps.steps-index c.steps-item.result (seen_doc c.loop-steps.at) c.in_err-at-2.field-0.0 (segments all start) c.loop-steps-test.true c.steps-item.is c.loop-steps.invariant fails)
