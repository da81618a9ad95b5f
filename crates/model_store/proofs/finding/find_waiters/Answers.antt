use Rattle.model_store.specs.Contents.{SaysWaiters}
use Rattle.model_store.specs.Due.{IfThere, waiters_name}
use Rattle.model_store.proofs.Answering.{answers, due_at, failed_at_tail}
use Rattle.model_store.proofs.finding.find_waiters.Goals as goal

pub returns-in-Ok-clause-found : goal.returns-in-Ok-clause-found
returns-in-Ok-clause-found g c =
    answers (λ rows. rows) (IfThere waiters_name SaysWaiters c.in-Ok.file) _ c.waiters_in.result
    (due_at (IfThere waiters_name SaysWaiters) _ c.args.folders.now c.in_ok-tail.tail _ c.in-Ok.file c.in_ok-tail.ensures c.in-Ok.ensures.found) c.waiters_in.ensures

pub returns-clause-path : goal.returns-clause-path
returns-clause-path g c = failed_at_tail c.args.folders.now c.in_ok-tail.tail _ c.in-Err.refusal c.in_ok-tail.ensures c.in-Err.ensures.path
