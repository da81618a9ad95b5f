use Rattle.std.proofs.Common.{◌+◌, ◌++◌, [], drop, get_or, sym, ap, ◌∙◌}
use Rattle.std.specs.Prelude.{unwrap_or, slice_get}
use Rattle.std.proofs.lemmas.List.{at_drop_more}
use Rattle.out_format.specs.Sections.{filled, cells_in}
use Rattle.out_format.proofs.Drawn.{row_more, cells_more, copied}
use Rattle.out_format.proofs.section.write_row.Goals as goal

pub loop-column-preserved : goal.loop-column-preserved
loop-column-preserved c =
    let widths = c.args.widths.now in
    let row = c.args.row.now in
    let column = c.loop-column.column in
    let out = c.loop-column.out in
    let w = get_or widths column 0 in
    let text = unwrap_or (slice_get row column) [] in
    let left = drop (column + 1) widths in
    let cell = c.in_ok-write_cell.ensures ∙ ap (λ o. c.push-in-loop-column.new.self ++ filled w (unwrap_or o [])) (copied c.get.result ∙ c.get.ensures.value) in
    row_more w text out c.push-in-loop-column.new.self c.write_cell.new.out c.push_ascii.new.self (cells_in left (drop (column + 1) row)) c.in_ok-push-2.ensures.ok cell c.in_ok-push_ascii.ensures.ok
    ∙ ap (λ cs. out ++ cs) (sym (cells_more w left row column))
    ∙ sym (at_drop_more (λ ws. out ++ cells_in ws (drop column row)) widths column 0 c.loop-column-test.true)
    ∙ c.loop-column.invariant
