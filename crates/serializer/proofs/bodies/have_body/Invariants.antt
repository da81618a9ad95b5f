use Rattle.std.proofs.Common.{◌≡◌, false, take}
use Rattle.std.specs.List.{list_any}
use Rattle.value_texts.specs.Documents.{is_in_body}
use Rattle.serializer.proofs.bodies.have_body.Given as goal

-- none of the members so far stands in the body
abbrev pub invariant-loop-member : goal.invariant-loop-member
invariant-loop-member l = list_any (is_in_body false) (take l.member-index l.members) ≡ false
