use Rattle.std.proofs.Common.{◌≡◌, true, take}
use Rattle.std.specs.List.{list_all}
use Rattle.jmes_eval.specs.Equality.{same}
use Rattle.wait_plan.proofs.matching.all_equal.Given as goal

-- all so far are equal
abbrev pub invariant-loop-item : goal.invariant-loop-item
invariant-loop-item l = list_all (λ x. same x l.expected) (take l.item-index l.items) ≡ true
