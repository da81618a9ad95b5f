use Rattle.std.proofs.Common.{◌≡◌, drop, map}
use Rattle.service_model.specs.Shapes.{are_new, have_own_wires}
use Rattle.service_model.proofs.shapes.are_wires_new.Given as goal

-- the names left are new and stand once, behind those so far, if and only if all stand once
abbrev pub invariant-loop-member : goal.invariant-loop-member
invariant-loop-member l = are_new l.wires.keys (map (λ m. m.wire) (drop l.member-index l.members)) ≡ have_own_wires l.fn.members
