use Rattle.std.proofs.Common.{◌≡◌, ◌++◌, drop, map}
use Rattle.std.specs.Prelude.{Ok}
use Rattle.texts.specs.Calls.{◌>>=◌}
use Rattle.endpoint_rules.specs.Scopes.{seen_scope}
use Rattle.endpoint_rules.specs.Values.{all_of, value_of}
use Rattle.endpoint_rules.proofs.evaluation.+evaluation.Given as goal

abbrev pub invariant-values-loop-expression : goal.invariant-values-loop-expression
invariant-values-loop-expression l =
    (all_of (map (value_of (seen_scope l.scope)) (drop l.expression-index l.expressions)) >>= (λ rest. Ok (l.values ++ rest)))
    ≡ all_of (map (value_of (seen_scope l.scope)) l.expressions)
