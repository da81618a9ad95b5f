use Rattle.std.proofs.Common.{◌+◌, drop, ap, ◌∙◌}
use Rattle.std.specs.Str.{chars}
use Rattle.model_files.specs.Faults.{each}
use Rattle.model_files.specs.Waiters.{row_of}
use Rattle.model_files.proofs.Each.{with_front, each_goes, due_ok}
use Rattle.model_files.proofs.waiters.read_rows.Goals as goal

pub loop-pair-preserved : goal.loop-pair-preserved
loop-pair-preserved c =
    ap (λ rows. with_front rows (each row_of (drop (c.loop-pair.pair-index + 1) c.as_slice-pair-items.result.now))) c.in_ok-push.ensures.ok
    ∙ each_goes row_of c.as_slice-pair-items.result.now c.loop-pair.pair-index c.pair-item.result c.in_ok-row.row c.loop-pair.rows (each row_of c.args.pairs.now) c.loop-pair-test.true c.pair-item.is
    (due_ok (λ row. row) (chars c.as_str.result.now) (row_of c.pair-item.result) c.read_row.result c.in_ok-row.row c.read_row.ensures c.in_ok-row.ensures.value) c.loop-pair.invariant
