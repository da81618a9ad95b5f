use Rattle.std.proofs.Common.{◌≡◌, take}
use Rattle.service_model.specs.Arguments.{arguments_of}
use Rattle.service_model.proofs.arguments.arguments.Given as goal

abbrev pub invariant-loop-member : goal.invariant-loop-member
invariant-loop-member l = l.arguments.items ≡ arguments_of l.shapes (take l.member-index l.members)
