use Rattle.model_files.specs.Faults.{each}
use Rattle.model_files.specs.Waiters.{row_of}
use Rattle.model_files.proofs.Each.{due_ok}
use Rattle.model_files.proofs.WholeRows.{waiter_rows_limited}
use Rattle.model_files.proofs.waiters.Waiters.read.Goals as goal

pub invariant_of-result : goal.invariant_of-result
invariant_of-result c =
    waiter_rows_limited c.in_ok-pairs.pairs.now c.in_ok-rows.rows
    (due_ok (λ rows. rows) _ (each row_of c.in_ok-pairs.pairs.now) c.read_rows.result c.in_ok-rows.rows c.read_rows.ensures c.in_ok-rows.ensures.value)
