use Rattle.std.proofs.Common.{◌≡◌, drop}
use Rattle.arg_table.specs.Lines.{first_paging}
use Rattle.arg_table.proofs.lines.first_paging.Given as goal

abbrev pub invariant-loop-given : goal.invariant-loop-given
invariant-loop-given l = first_paging (drop l.given-index l.givens) ≡ first_paging l.givens
