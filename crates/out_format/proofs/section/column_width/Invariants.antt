use Rattle.std.proofs.Common.{◌≡◌, max, map, drop}
use Rattle.json_doc.specs.Documents.{greatest}
use Rattle.out_format.specs.Sections.{width_at, column_width}
use Rattle.out_format.proofs.section.column_width.Given as goal

-- the greatest so far or of those that are due is that of all
abbrev pub invariant-loop-row : goal.invariant-loop-row
invariant-loop-row l = max l.most (greatest (map (width_at l.column) (drop l.row-index l.rows))) ≡ column_width l.rows l.column
