use Rattle.std.proofs.Common.{◌≡◌, drop}
use Rattle.std.specs.List.{list_all}
use Rattle.jmes_eval.specs.Lists.{is_number}
use Rattle.jmes_eval.proofs.sorting.are_numbers.Given as goal

abbrev pub invariant-loop-item : goal.invariant-loop-item
invariant-loop-item l = list_all is_number (drop l.item-index l.items) ≡ list_all is_number l.fn.items
