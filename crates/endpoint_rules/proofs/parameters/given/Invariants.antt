use Rattle.std.proofs.Common.{◌≡◌, drop}
use Rattle.endpoint_rules.specs.Parameters.{given_after, given_of}
use Rattle.endpoint_rules.proofs.parameters.given.Given as goal

abbrev pub invariant-loop-parameter : goal.invariant-loop-parameter
invariant-loop-parameter l = given_after l.params l.given (drop l.parameter-index l.parameters) ≡ given_of l.params l.parameters
