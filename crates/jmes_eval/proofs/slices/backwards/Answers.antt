use Rattle.std.proofs.Common.{◌-◌, length, ap, ◌∙◌, arith}
use Rattle.std.proofs.lemmas.Grind.{common_steps}
use Rattle.jmes_eval.proofs.EachSo.{backward_step}
use Rattle.jmes_eval.proofs.slices.backwards.Goals as goal

pub elements-preserved : goal.elements-preserved
elements-preserved c =
    let e = backward_step c.args.step c.saturating_sub.result c.elements.rest.now c.in-Some.others.now c.in-Some.last.now c.in-Some.ensures.cases.0 (c.saturating_sub.ensures ∙ ap (λ k. length c.in-Some.others.now - k) c.saturating_sub-skipped.ensures) in
    let pushed = c.in_ok-push.ensures.items in
    let front = c.split_at.ensures.front in
    grind (arith, common_steps, e, pushed, front)
