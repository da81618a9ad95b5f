use Rattle.std.proofs.Common.{◌≡◌, drop}
use Rattle.std.specs.Str.{chars}
use Rattle.model_files.specs.Waiters.{row_named}
use Rattle.model_files.proofs.waiters.Waiters.find.Given as goal

-- none of the rows so far has the name
abbrev pub invariant-loop-row : goal.invariant-loop-row
invariant-loop-row l = row_named (chars l.command) (drop l.row-index l.row-items) ≡ row_named (chars l.command) l.fn.self
