use Rattle.std.proofs.Common.{sym, ◌∙◌, subst, ◌<◌}
use Rattle.wait_plan.proofs.Passed.{passed}
use Rattle.wait_plan.proofs.deciding.classify.Goals as goal

pub loop-at-preserved : goal.loop-at-preserved
loop-at-preserved c =
    sym (passed c.args.states.now c.args.matched.now c.loop-at.at c.loop-at-test.true (subst (λ n. c.loop-at.at < n) c.requires c.loop-at-test.true) c.if-matched-at.false)
    ∙ c.loop-at.invariant
