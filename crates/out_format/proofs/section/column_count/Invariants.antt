use Rattle.std.proofs.Common.{◌≡◌, max, map, length, drop}
use Rattle.json_doc.specs.Documents.{greatest}
use Rattle.out_format.specs.Sections.{column_count}
use Rattle.out_format.proofs.section.column_count.Given as goal

-- the greatest so far or of those that are due is that of all
abbrev pub invariant-loop-row : goal.invariant-loop-row
invariant-loop-row l = max l.most (greatest (map length (drop l.row-index l.rows))) ≡ column_count l.rows
