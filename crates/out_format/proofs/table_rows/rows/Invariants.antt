use Rattle.std.proofs.Common.{◌≡◌, ◌++◌, map, drop}
use Rattle.std.specs.Prelude.{filter}
use Rattle.out_format.specs.Layers.{layer_of}
use Rattle.out_format.specs.Table.{is_row, row_cells}
use Rattle.out_format.proofs.table_rows.rows.Given as goal

-- the rows so far and those that are due are all of them
abbrev pub invariant-loop-doc : goal.invariant-loop-doc
invariant-loop-doc l = l.made ++ map row_cells (filter is_row (map layer_of (drop l.doc-index l.docs))) ≡ map row_cells (filter is_row (map layer_of l.docs))
