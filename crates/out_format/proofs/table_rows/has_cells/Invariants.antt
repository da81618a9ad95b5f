use Rattle.std.proofs.Common.{◌≡◌, drop}
use Rattle.std.specs.List.{list_any}
use Rattle.out_format.specs.Table.{has_cell}
use Rattle.out_format.proofs.table_rows.has_cells.Given as goal

-- a row with a cell is one of those that are due
abbrev pub invariant-loop-row : goal.invariant-loop-row
invariant-loop-row l = list_any has_cell (drop l.row-index l.rows) ≡ list_any has_cell l.rows
