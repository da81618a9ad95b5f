use Rattle.wait_plan.proofs.RowPlans.{plan_or_fault, plan_excludes_fault}
use Rattle.wait_plan.proofs.laws.row_has_plan_or_fault.Goals as goal

pub returns-clause-one : goal.returns-clause-one
returns-clause-one c = plan_or_fault

pub returns-clause-other : goal.returns-clause-other
returns-clause-other c = plan_excludes_fault
