use Rattle.std.proofs.Common.{◌≡◌, drop}
use Rattle.std.specs.List.{find}
use Rattle.service_model.specs.Arguments.{is_shared}
use Rattle.service_model.proofs.arguments.first_shared.Given as goal

-- the first of the arguments that are left is the first of all
abbrev pub invariant-loop-argument : goal.invariant-loop-argument
invariant-loop-argument l = find (is_shared l.arguments) (drop l.argument-index l.arguments) ≡ find (is_shared l.arguments) l.arguments
