use Rattle.std.proofs.Common.{◌≡◌, drop}
use Rattle.jmes_eval.specs.Equality.{contains_item}
use Rattle.jmes_eval.proofs.text_functions.contains_item.Given as goal

abbrev pub invariant-loop-item : goal.invariant-loop-item
invariant-loop-item l = contains_item (drop l.item-index l.items) l.value ≡ contains_item l.fn.items l.fn.value
