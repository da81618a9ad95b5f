use Rattle.std.proofs.Common.{sym, ap, ◌∙◌}
use Rattle.std.specs.List.{list_all}
use Rattle.json_doc.specs.declared.doc.Doc.{out-Doc}
use Rattle.out_format.specs.Layers.{is_scalar}
use Rattle.out_format.proofs.TableParts.{row-test}
use Rattle.out_format.proofs.table_rows.is_row.Goals as goal

pub returns : goal.returns
returns c =
    c.are_scalars.ensures ∙ ap (list_all (λ d. is_scalar (out-Doc d))) c.items_of.ensures
    ∙ row-test c.args.doc.now (sym c.is_object.ensures ∙ c.if-is_object.false)
