use Rattle.std.proofs.Common.{ap, length, ◌∙◌}
use Rattle.wait_plan.proofs.RowPlans.{as_many_tests}
use Rattle.wait_plan.proofs.plan.WaitPlan.of.Goals as goal

pub invariant_of-result : goal.invariant_of-result
invariant_of-result c = record {
  as_many = ap length c.in_ok-states_of.ensures ∙ as_many_tests c.as_slice-acceptors.result.now c.in_ok-tests_of.field-0 c.in_ok-tests_of.ensures.tests;
}
