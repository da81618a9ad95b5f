use Rattle.std.proofs.Common.{◌≡◌, drop}
use Rattle.typed_value.specs.Places.{member_named}
use Rattle.typed_value.proofs.finding.first_member.Given as goal

abbrev pub invariant-loop-at : goal.invariant-loop-at
invariant-loop-at l = member_named l.name (drop l.at l.members) ≡ member_named l.name l.members
