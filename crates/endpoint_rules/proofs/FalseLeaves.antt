-- A leaf with a condition that doesn't hold changes nothing.
use Rattle.std.proofs.Common.{◌≡◌, List, [], ◌∷◌, ◌++◌, None, ap}
use Rattle.std.specs.Prelude.{Ok}
use Rattle.texts.specs.Calls.{◌>>=◌}
use Rattle.endpoint_rules.specs.Endpoints.{at_place, passed, answered_if, answer_of_leaf, first_answer, or_later}
use Rattle.rule_sets.specs.Rules.{WholeLeaf}
use Rattle.endpoint_rules.specs.Scopes.{Env}

pub is_free : (env : Env) (before after : List WholeLeaf) (leaf : WholeLeaf) → passed env leaf.conditions ≡ Ok None
    → first_answer env (before ++ leaf ∷ after) ≡ first_answer env (before ++ after)
is_free env [] after leaf none =
    ap (λ r. (at_place leaf.place r >>= answered_if leaf) >>= (λ found. or_later found (first_answer env after))) none
is_free env (first ∷ before) after leaf none =
    ap (λ later. answer_of_leaf env first >>= (λ found. or_later found later)) (is_free env before after leaf none)
