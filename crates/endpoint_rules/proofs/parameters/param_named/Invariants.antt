use Rattle.std.proofs.Common.{◌≡◌, drop}
use Rattle.endpoint_rules.specs.Parameters.{param_named}
use Rattle.endpoint_rules.proofs.parameters.param_named.Given as goal

-- none of those so far has the name
abbrev pub invariant-loop-key : goal.invariant-loop-key
invariant-loop-key l = param_named l.name (drop l.key-index l.params) ≡ param_named l.name l.params
