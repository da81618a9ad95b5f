use Rattle.std.proofs.Common.{◌≡◌, ◌++◌, map}
use Rattle.texts.specs.Keys.{keys}
use Rattle.out_format.specs.Borrowed.{members_of, with_text}
use Rattle.out_format.specs.Members.{cell_at}
use Rattle.out_format.proofs.members.cells.Given as goal

-- the cells so far and those of the columns that are left are all of them
abbrev pub invariant-loop-column : goal.invariant-loop-column
invariant-loop-column l =
    l.cells ++ map (cell_at (map with_text (members_of l.members.entries))) (keys (members_of l.column-iterator))
    ≡ map (cell_at (map with_text (members_of l.members.entries))) (keys (members_of l.columns.entries))
