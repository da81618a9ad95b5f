use Rattle.std.proofs.Common.{◌+◌, drop, ap, ◌∙◌}
use Rattle.std.specs.Str.{chars}
use Rattle.model_files.specs.Paginators.{row_of, rows_of}
use Rattle.model_files.proofs.Each.{with_front, due_ok}
use Rattle.model_files.proofs.Rows.{rows_go}
use Rattle.model_files.proofs.paginators.read_rows.Goals as goal

pub loop-pair-preserved : goal.loop-pair-preserved
loop-pair-preserved c =
    ap (λ rows. with_front rows (rows_of (drop (c.loop-pair.pair-index + 1) c.as_slice-pair-items.result.now))) c.in_ok-push_row.ensures
    ∙ rows_go c.as_slice-pair-items.result.now c.loop-pair.pair-index c.pair-item.result c.in_ok-row.row c.loop-pair.rows (rows_of c.args.pairs.now) c.loop-pair-test.true c.pair-item.is
    (due_ok (λ row. row) (chars c.as_str.result.now) (row_of c.pair-item.result.value) c.read_row.result c.in_ok-row.row c.read_row.ensures c.in_ok-row.ensures.value) c.loop-pair.invariant
