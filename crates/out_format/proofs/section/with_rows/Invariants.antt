use Rattle.std.proofs.Common.{◌≡◌, ◌++◌, drop}
use Rattle.out_format.specs.Sections.{shown_rows}
use Rattle.out_format.proofs.section.with_rows.Given as goal

-- the rows so far and those that are due are all of them
abbrev pub invariant-loop-row : goal.invariant-loop-row
invariant-loop-row l = l.all ++ shown_rows (drop l.row-index l.rows) ≡ l.fn.lines ++ shown_rows l.rows
