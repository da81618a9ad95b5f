use Rattle.std.proofs.Common.{◌+◌, nat_eq, [], drop, ap, ◌∙◌}
use Rattle.model_files.proofs.Each.{with_front, due_ok}
use Rattle.std.specs.Cmp.Lexicographic.{pointwise}
use Rattle.std.specs.Str.{chars}
use Rattle.indexmap.specs.IndexSet.{insert_key}
use Rattle.service_model.specs.Operations.{operation_of, operations_of}
use Rattle.service_model.proofs.Earlier.{rows_go}
use Rattle.service_model.proofs.operations.read_operations.Goals as goal

pub loop-pair-preserved : goal.loop-pair-preserved
loop-pair-preserved c =
    let names = c.args.service.now.names.now.entries in
    let shapes = c.args.service.now.shapes.now in
    let signs = c.args.service.now.signs_by_v4 in
    ap (λ rows. with_front rows (operations_of names shapes signs c.insert.new.self.keys (drop (c.loop-pair.pair-index + 1) c.as_slice-pair-items.result.now))) c.in_ok-push.ensures.items
    ∙ rows_go names shapes signs c.loop-pair.commands.keys c.insert.new.self.keys c.as_slice-pair-items.result.now c.loop-pair.pair-index c.pair-item.result c.in_ok-row.row c.loop-pair.rows.items
    (operations_of names shapes signs [] c.args.pairs.now) c.loop-pair-test.true c.pair-item.is (due_ok (λ row. row) (chars c.as_str.result.now) (operation_of names shapes signs c.loop-pair.commands.keys c.pair-item.result.value) c.read_operation-read.result c.in_ok-row.row c.read_operation-read.ensures c.in_ok-row.ensures.value)
    (c.in_ok-insert.ensures.keys ∙ ap (insert_key (pointwise nat_eq) c.loop-pair.commands.keys) c.in_ok-copy.ensures) c.loop-pair.invariant
