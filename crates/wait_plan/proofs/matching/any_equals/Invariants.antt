use Rattle.std.proofs.Common.{◌≡◌, false, take}
use Rattle.std.specs.List.{list_any}
use Rattle.jmes_eval.specs.Equality.{same}
use Rattle.wait_plan.proofs.matching.any_equals.Given as goal

-- none so far is equal
abbrev pub invariant-loop-item : goal.invariant-loop-item
invariant-loop-item l = list_any (λ x. same x l.expected) (take l.item-index l.items) ≡ false
