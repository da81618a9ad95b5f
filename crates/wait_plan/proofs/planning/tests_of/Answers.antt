use Rattle.std.proofs.Common.{◌+◌, sym, subst, take}
use Rattle.wait_plan.specs.Plans.{LooksAt, AreTests}
use Rattle.wait_plan.proofs.RowPlans.{tests_step, bad_at}
use Rattle.wait_plan.proofs.planning.tests_of.Goals as goal

pub returns-in-None-clause-bad : goal.returns-in-None-clause-bad
returns-in-None-clause-bad c =
    bad_at c.args.acceptors.now c.loop-at.at c.index-acceptors-at.result c.loop-at.tests c.bad_argument.result c.loop-at-test.true c.index-acceptors-at.is
    c.loop-at.invariant (subst (λ found. LooksAt c.index-acceptors-at.result found) c.in-None.is c.in_ok-subject.ensures) c.bad_argument.ensures

pub loop-at-preserved : goal.loop-at-preserved
loop-at-preserved c =
    subst (λ tests. AreTests (take (c.loop-at.at + 1) c.args.acceptors.now) tests) (sym c.in_ok-push-in-Some.ensures.ok)
    (tests_step c.args.acceptors.now c.loop-at.at c.index-acceptors-at.result c.loop-at.tests _ c.loop-at-test.true c.index-acceptors-at.is
    c.loop-at.invariant (subst (λ found. LooksAt c.index-acceptors-at.result found) c.in-Some.is c.in_ok-subject.ensures, c.in_ok-copy-in-Some.ensures))
