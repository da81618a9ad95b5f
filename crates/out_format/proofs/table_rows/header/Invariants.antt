use Rattle.std.proofs.Common.{◌≡◌, ◌++◌, map}
use Rattle.texts.specs.Keys.{keys}
use Rattle.out_format.specs.Borrowed.{members_of}
use Rattle.out_format.specs.declared.cell.Cell.TheVariants.{Key}
use Rattle.out_format.proofs.table_rows.header.Given as goal

-- the keys so far and those that are left are all of them
abbrev pub invariant-loop-column : goal.invariant-loop-column
invariant-loop-column l = l.made ++ map Key (keys (members_of l.column-iterator)) ≡ map Key (keys (members_of l.columns.entries))
