use Rattle.std.proofs.Common.{◌≡◌, ◌++◌, ◌∷◌, drop}
use Rattle.out_format.specs.Sections.{cells_in}
use Rattle.out_format.proofs.section.write_row.Given as goal

-- the columns so far and those that are due are all of them
abbrev pub invariant-loop-column : goal.invariant-loop-column
invariant-loop-column l = l.out ++ cells_in (drop l.column l.widths) (drop l.column l.row) ≡ l.fn.out ++ (124 ∷ cells_in l.widths l.row)
