use Rattle.std.proofs.Common.{◌≡◌, ℕ, nat_eq, false, get_or, take}
use Rattle.std.specs.List.{list_any}
use Rattle.service_model.proofs.reach.places.Given as goal

abbrev pub invariant-loop-at : goal.invariant-loop-at
invariant-loop-at l = (n : ℕ) → list_any (nat_eq n) l.places.items ≡ get_or (take l.at l.marked) n false
