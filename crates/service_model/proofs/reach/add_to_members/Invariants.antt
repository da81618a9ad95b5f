use Rattle.std.proofs.Common.{◌≡◌, ℕ, ◌&&◌, ◌||◌, nat_eq, length, take}
use Rattle.std.specs.List.{list_any}
use Rattle.service_model.specs.Reach.{is_listed}
use Rattle.service_model.proofs.reach.add_to_members.Given as goal

abbrev pub invariant-loop-member : goal.invariant-loop-member
invariant-loop-member l = record {
  size : length l.users ≡ length l.fn.users;
  listed : (part user : ℕ) → is_listed l.users part user ≡ (is_listed l.fn.users part user || nat_eq user l.at && list_any (λ m. nat_eq part m.shape.0) (take l.member-index l.members));
}
