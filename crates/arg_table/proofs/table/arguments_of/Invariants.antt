use Rattle.std.proofs.Common.{◌≡◌, map, take}
use Rattle.std.specs.List.{enumerate_from}
use Rattle.std.specs.Option.{option_copied}
use Rattle.arg_table.specs.Tables.{argument_of, paged_by}
use Rattle.arg_table.proofs.table.arguments_of.Given as goal

abbrev pub invariant-loop-at : goal.invariant-loop-at
invariant-loop-at l =
    l.arguments.items ≡ map (λ e. argument_of l.model.shapes l.input.required (paged_by (option_copied l.row)) e.0 e.1) (enumerate_from 0 (take l.at l.members))
