use Rattle.std.proofs.Common.{◌≡◌}
use Rattle.arg_table.specs.Lines.{line_from}
use Rattle.arg_table.specs.Inside.{IsGathered}
use Rattle.arg_table.proofs.lines.gather.Given as goal

abbrev pub invariant-loop-one : goal.invariant-loop-one
invariant-loop-one l = record { line : l.made.line ≡ line_from l.yielded; members : IsGathered l.made }
