use Rattle.std.proofs.Common.{◌≡◌, ◌++◌, drop}
use Rattle.out_format.specs.Sections.{rows_text}
use Rattle.out_format.proofs.section.write_rows.Given as goal

-- the rows so far and those that are due are all of them
abbrev pub invariant-loop-row : goal.invariant-loop-row
invariant-loop-row l = l.out ++ rows_text l.widths (drop l.row-index l.rows) ≡ l.fn.out ++ rows_text l.widths l.rows
