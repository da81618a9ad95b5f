use Rattle.std.proofs.Common.{take}
use Rattle.arg_table.specs.Inside.{IsNamed}
use Rattle.arg_table.proofs.meaning.names_of.Given as goal

abbrev pub invariant-loop-argument : goal.invariant-loop-argument
invariant-loop-argument l = IsNamed (take l.argument-index l.arguments) l.names
