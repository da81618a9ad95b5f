use Rattle.std.proofs.Common.{◌≡◌, drop}
use Rattle.service_model.specs.Shapes.{names_member}
use Rattle.service_model.proofs.shapes.has_member.Given as goal

abbrev pub invariant-loop-member : goal.invariant-loop-member
invariant-loop-member l = names_member (drop l.member-index l.members) l.name ≡ names_member l.fn.members l.name
