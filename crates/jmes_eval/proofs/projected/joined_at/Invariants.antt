use Rattle.std.proofs.Common.{◌≡◌, ◌++◌, drop}
use Rattle.jmes_eval.specs.Meaning.{joined_lists}
use Rattle.jmes_eval.specs.Inside.{seen_all}
use Rattle.jmes_eval.proofs.projected.joined_at.Given as goal

abbrev pub invariant-loop-item : goal.invariant-loop-item
invariant-loop-item l = seen_all l.made.items ++ joined_lists (drop l.item-index l.items) ≡ joined_lists l.fn.items
