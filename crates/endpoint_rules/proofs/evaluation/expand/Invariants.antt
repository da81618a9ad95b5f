use Rattle.std.proofs.Common.{◌≡◌, ◌++◌, drop}
use Rattle.std.specs.Prelude.{Ok}
use Rattle.texts.specs.Calls.{◌>>=◌}
use Rattle.endpoint_rules.specs.Scopes.{seen_scope}
use Rattle.endpoint_rules.specs.Values.{expanded_pieces}
use Rattle.endpoint_rules.proofs.evaluation.expand.Given as goal

abbrev pub invariant-loop-piece : goal.invariant-loop-piece
invariant-loop-piece l =
    (expanded_pieces (seen_scope l.scope) (drop l.piece-index l.piece-items) >>= (λ rest. Ok (l.text ++ rest)))
    ≡ expanded_pieces (seen_scope l.scope) l.piece-items
