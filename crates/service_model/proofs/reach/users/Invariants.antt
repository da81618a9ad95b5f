use Rattle.std.proofs.Common.{◌≡◌, ℕ, ◌&&◌, nat_lt, length}
use Rattle.service_model.specs.Reach.{is_listed, uses}
use Rattle.service_model.proofs.reach.users.Given as goal

-- the shapes so far are noted at their parts
abbrev pub invariant-loop-at : goal.invariant-loop-at
invariant-loop-at l = record {
  size : length l.users.items ≡ length l.shapes;
  listed : (part user : ℕ) → is_listed l.users.items part user ≡ (nat_lt user l.at && uses l.shapes user part);
}
