use Rattle.std.proofs.Common.{◌≡◌, drop}
use Rattle.endpoint_rules.specs.Endpoints.{passed}
use Rattle.rule_sets.specs.Rules.{path_of}
use Rattle.endpoint_rules.specs.Scopes.{seen_scope}
use Rattle.endpoint_rules.proofs.resolving.passes.Given as goal

-- all conditions so far hold
abbrev pub invariant-loop-number : goal.invariant-loop-number
invariant-loop-number l =
    passed (seen_scope l.scope) (path_of l.conditions (drop l.number-index l.path)) ≡ passed (seen_scope l.fn.scope) (path_of l.conditions l.path)
