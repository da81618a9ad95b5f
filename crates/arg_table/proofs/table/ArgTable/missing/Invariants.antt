use Rattle.std.proofs.Common.{◌≡◌, ◌&&◌, filter, map, take}
use Rattle.std.specs.Prelude.{not}
use Rattle.arg_table.specs.Lines.{is_given}
use Rattle.arg_table.proofs.table.ArgTable.missing.Given as goal

-- those of the arguments so far
abbrev pub invariant-loop-argument : goal.invariant-loop-argument
invariant-loop-argument l =
    l.missing ≡ map (λ a. a.name) (filter (λ a. a.is_needed && not (is_given l.gathered.line.args a.member)) (take l.argument-index l.arguments))
