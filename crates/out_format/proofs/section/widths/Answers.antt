use Rattle.std.proofs.Common.{◌++◌, ◌∷◌, [], sym, ap, ◌∙◌, arith}
use Rattle.std.proofs.lemmas.List.FromFn.{map-range_with_len_more}
use Rattle.out_format.specs.Sections.{column_width}
use Rattle.out_format.proofs.section.widths.Goals as goal

pub loop-column-preserved : goal.loop-column-preserved
loop-column-preserved c =
    let rows = c.args.rows.now in
    let column = c.loop-column.column in
    let made = c.loop-column.made in
    c.in_ok-push.ensures.ok ∙ ap (λ w. made ++ w ∷ []) c.column_width.ensures
    ∙ ap (λ ws. ws ++ column_width rows column ∷ []) c.loop-column.invariant
    ∙ sym (map-range_with_len_more (column_width rows) 0 column column (omega arith))
