use Rattle.std.proofs.Common.{◌≡◌, false, take}
use Rattle.std.specs.List.{list_any}
use Rattle.arg_table.specs.Lines.{is_paged}
use Rattle.arg_table.proofs.table.ArgTable.has_paged.Given as goal

abbrev pub invariant-loop-arg : goal.invariant-loop-arg
invariant-loop-arg l = list_any (is_paged l.self) (take l.arg-index l.args) ≡ false
