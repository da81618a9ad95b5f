use Rattle.std.proofs.Common.{◌≡◌, ◌++◌, drop}
use Rattle.jmes_eval.specs.Inside.{looked}
use Rattle.jmes_eval.proofs.elements.elements.Given as goal

abbrev pub invariant-loop-item : goal.invariant-loop-item
invariant-loop-item l = looked l.made.items ++ drop l.item-index l.items ≡ l.fn.items
