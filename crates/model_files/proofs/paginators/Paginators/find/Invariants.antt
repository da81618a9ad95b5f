use Rattle.std.proofs.Common.{◌≡◌, drop}
use Rattle.std.specs.Str.{chars}
use Rattle.model_files.specs.Paginators.{row_named}
use Rattle.model_files.proofs.paginators.Paginators.find.Given as goal

-- none of the rows so far has the name
abbrev pub invariant-loop-named : goal.invariant-loop-named
invariant-loop-named l = row_named (chars l.operation) (drop l.named-index l.named-items) ≡ row_named (chars l.operation) l.fn.self
