use Rattle.std.proofs.Common.{length, ap, ◌∙◌, arith}
use Rattle.std.specs.Prelude.{min}
use Rattle.std.proofs.lemmas.Grind.{common_steps}
use Rattle.jmes_eval.proofs.EachSo.{forward_step}
use Rattle.jmes_eval.proofs.slices.forwards.Goals as goal

pub elements-preserved : goal.elements-preserved
elements-preserved c =
    let e = forward_step c.args.step c.min.result c.elements.rest.now c.in-Some.others.now c.in-Some.first.now c.in-Some.ensures.cases.0 (c.min.ensures ∙ ap (λ k. min k (length c.in-Some.others.now)) c.saturating_sub-skipped.ensures) in
    let pushed = c.in_ok-push.ensures.items in
    let back = c.split_at.ensures.back in
    grind (arith, common_steps, e, pushed, back)
