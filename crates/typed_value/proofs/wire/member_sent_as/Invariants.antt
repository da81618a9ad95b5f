use Rattle.std.proofs.Common.{◌≡◌, drop}
use Rattle.typed_value.specs.Wire.{member_sent_as}
use Rattle.typed_value.proofs.wire.member_sent_as.Given as goal

abbrev pub invariant-loop-member : goal.invariant-loop-member
invariant-loop-member l = member_sent_as l.wire (drop l.member-index l.members) ≡ member_sent_as l.wire l.members
