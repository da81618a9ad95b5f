use Rattle.std.proofs.Common.{◌≡◌, ◌++◌}
use Rattle.std.specs.Vec.Iter.{into_iter_items}
use Rattle.jmes_eval.specs.Inside.{seen_all}
use Rattle.jmes_eval.proofs.projected.all_made.Given as goal

abbrev pub invariant-loop-item : goal.invariant-loop-item
invariant-loop-item l = seen_all l.made.items ++ into_iter_items l.item-iterator ≡ l.fn.items.items
