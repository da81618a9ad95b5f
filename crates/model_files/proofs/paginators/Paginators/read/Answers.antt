use Rattle.model_files.specs.Paginators.{rows_of}
use Rattle.model_files.proofs.Each.{due_ok}
use Rattle.model_files.proofs.WholeRows.{pager_rows_whole}
use Rattle.model_files.proofs.paginators.Paginators.read.Goals as goal

pub invariant_of-result : goal.invariant_of-result
invariant_of-result c =
    pager_rows_whole c.in_ok-pairs.pairs.now c.in_ok-rows.rows
    (due_ok (λ rows. rows) _ (rows_of c.in_ok-pairs.pairs.now) c.read_rows.result c.in_ok-rows.rows c.read_rows.ensures c.in_ok-rows.ensures.value)
