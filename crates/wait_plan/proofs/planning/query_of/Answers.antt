use Rattle.std.proofs.Common.{sym, ◌∙◌}
use Rattle.wait_plan.proofs.RowPlans.{no_query}
use Rattle.wait_plan.proofs.planning.query_of.Goals as goal

pub returns-in-false : goal.returns-in-false
returns-in-false c = rw (c.in-Some.is) (no_query c.in-Some.text.now c.in-Err.fault (sym c.is_memory.ensures ∙ c.in-false.is) c.in-Err.ensures.fault)
