use Rattle.std.proofs.Common.{◌≡◌, map}
use Rattle.std.specs.List.{range_with_len}
use Rattle.out_format.specs.Sections.{column_width}
use Rattle.out_format.proofs.section.widths.Given as goal

-- the widths of the columns so far
abbrev pub invariant-loop-column : goal.invariant-loop-column
invariant-loop-column l = l.made ≡ map (column_width l.rows) (range_with_len 0 l.column)
