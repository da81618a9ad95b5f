use Rattle.std.proofs.Common.{◌≡◌, drop}
use Rattle.endpoint_rules.specs.Endpoints.{passed}
use Rattle.endpoint_rules.specs.Scopes.{seen_scope}
use Rattle.endpoint_rules.proofs.resolving.pass.Given as goal

-- all conditions so far hold
abbrev pub invariant-loop-condition : goal.invariant-loop-condition
invariant-loop-condition l =
    passed (seen_scope l.scope) (drop l.condition-index l.conditions) ≡ passed (seen_scope l.fn.scope) l.conditions
