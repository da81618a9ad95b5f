-- Conditions of a path, rule by rule.
use Rattle.std.proofs.Common.{◌≡◌, ℕ, ◌+◌, ◌<◌, Bool, true, false, List, [], ◌∷◌, ◌++◌, length, drop, Option, None, Some, refl, ap, ◌∙◌, if◌then◌else◌}
use Rattle.std.specs.Prelude.{Result, Ok, Err, slice_index}
use Rattle.std.proofs.lemmas.List.{drop_more}
use Rattle.json_doc.specs.declared.doc.Doc.{Doc}
use Rattle.texts.specs.Calls.{◌>>=◌}
use Rattle.rule_sets.specs.declared.rule_set.Condition.{Condition}
use Rattle.endpoint_rules.specs.declared.stop.Stop.{Stop}
use Rattle.endpoint_rules.specs.Endpoints.{passed, assigned_if}
use Rattle.endpoint_rules.specs.Kinds.{holds}
use Rattle.rule_sets.specs.Rules.{path_of, conditions_at}
use Rattle.endpoint_rules.specs.Scopes.{Env}
use Rattle.endpoint_rules.specs.Values.{value_of}

-- these conditions, where all before them hold
abbrev pub then_passed : List Condition → Option Env → Result (Option Env) Stop
then_passed others None = Ok None
then_passed others (Some env) = passed env others

if_holds : (others : List Condition) (b : Bool) (whole front : Result (Option Env) Stop) → whole ≡ (front >>= then_passed others)
    → (if b then whole else Ok None) ≡ ((if b then front else Ok None) >>= then_passed others)
if_holds others true whole front e = e
if_holds others false whole front e = refl

behind : (others : List Condition) (r : Result Doc Stop) (whole front : Doc → Result (Option Env) Stop)
    → ((value : Doc) → whole value ≡ (front value >>= then_passed others)) → (r >>= whole) ≡ ((r >>= front) >>= then_passed others)
behind others (Ok value) whole front each = each value
behind others (Err stop) whole front each = refl

passed-append : (env : Env) (front others : List Condition) → passed env (front ++ others) ≡ (passed env front >>= then_passed others)
passed-append env [] others = refl
passed-append env (c ∷ front) others =
    behind others (value_of env c.call) (λ value. if holds value then passed (assigned_if c.assign value env) (front ++ others) else Ok None)
    (λ value. if holds value then passed (assigned_if c.assign value env) front else Ok None)
    (λ value. if_holds others (holds value) _ _ (passed-append (assigned_if c.assign value env) front others))

-- the conditions of the next rule, and then those of the others
pub next_rule : (env : Env) (groups : List (List Condition)) (path : List ℕ) (i : ℕ) → i < length path
    → passed env (path_of groups (drop i path)) ≡ (passed env (conditions_at groups (slice_index path i)) >>= then_passed (path_of groups (drop (i + 1) path)))
next_rule env groups path i below =
    ap (λ ns. passed env (path_of groups ns)) (drop_more path i 0 below)
    ∙ passed-append env (conditions_at groups (slice_index path i)) (path_of groups (drop (i + 1) path))
