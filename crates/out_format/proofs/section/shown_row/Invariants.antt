use Rattle.std.proofs.Common.{◌≡◌, ◌++◌, map, drop}
use Rattle.out_format.specs.Sections.{shown}
use Rattle.out_format.proofs.section.shown_row.Given as goal

-- the cells so far and those that are due are all of them
abbrev pub invariant-loop-cell : goal.invariant-loop-cell
invariant-loop-cell l = l.made ++ map shown (drop l.cell-index l.row) ≡ map shown l.row
