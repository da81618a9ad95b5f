use Rattle.std.proofs.Common.{take}
use Rattle.service_model.specs.Inside.{IsUsage}
use Rattle.service_model.proofs.arguments.usage_of.Given as goal

abbrev pub invariant-loop-argument : goal.invariant-loop-argument
invariant-loop-argument l = IsUsage (take l.argument-index l.arguments) l.usage
