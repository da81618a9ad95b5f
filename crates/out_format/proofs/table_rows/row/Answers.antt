use Rattle.std.proofs.Common.{map, sym, ap, ◌∙◌}
use Rattle.out_format.specs.Layers.{layer_of}
use Rattle.out_format.specs.Text.{texts_of}
use Rattle.out_format.specs.declared.cell.Cell.TheVariants.{Value}
use Rattle.out_format.proofs.TableParts.{row-texts}
use Rattle.out_format.proofs.table_rows.row.Goals as goal

pub returns : goal.returns
returns c =
    let none = sym c.is_scalar.ensures ∙ c.if-is_scalar.false in
    let same = ap (λ ds. map Value (texts_of (map layer_of ds))) c.items_of.ensures ∙ ap (map Value) (row-texts c.args.doc.now none) in
    rw same at c.values-2.ensures
