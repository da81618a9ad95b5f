use Rattle.std.proofs.Common.{◌≡◌, ◌++◌, drop}
use Rattle.jmes_eval.specs.Inside.{seen_all}
use Rattle.jmes_eval.proofs.projected.all_at.Given as goal

abbrev pub invariant-loop-item : goal.invariant-loop-item
invariant-loop-item l = seen_all l.made.items ++ drop l.item-index l.items ≡ l.fn.items
