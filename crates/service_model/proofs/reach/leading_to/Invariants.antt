use Rattle.std.proofs.Common.{◌+◌, length}
use Rattle.service_model.proofs.Leading.{IsSearch}
use Rattle.service_model.proofs.Noted.{owed}
use Rattle.service_model.proofs.reach.leading_to.Given as goal

abbrev pub invariant-loop-at : goal.invariant-loop-at
invariant-loop-at l = IsSearch l.shapes l.marked l.leads.items l.work.items

-- what is due, and what can still come to be due
abbrev pub decreases-loop-at : goal.decreases-loop-at
decreases-loop-at l = length l.work.items + owed l.leads.items l.users.items
