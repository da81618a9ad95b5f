-- What is due of rules is an endpoint or a fault of theirs, never want of memory.
use Rattle.std.proofs.Common.{◌≡◌, ◌⊎◌, inl, inr, ℕ, Bool, true, false, List, [], ◌∷◌, Option, None, Some, refl, if◌then◌else◌}
use Rattle.std.specs.Prelude.{Result, Ok, Err}
use Rattle.json_doc.specs.declared.doc.Doc.{Doc}
use Rattle.texts.specs.Calls.{◌>>=◌}
use Rattle.texts.specs.declared.pairs.Pair.{Pair}
use Rattle.endpoint_rules.specs.declared.endpoint.Endpoint.{Endpoint}
use Rattle.endpoint_rules.specs.declared.fault.EndpointFault.{EndpointFault}
use Rattle.endpoint_rules.specs.declared.fault.EndpointFault.TheVariants.{RuleError, TypeClash}
use Rattle.rule_sets.specs.declared.partitions.Partition.{Partition}
use Rattle.rule_sets.specs.declared.rule_set.Answer.{Answer}
use Rattle.rule_sets.specs.declared.rule_set.Answer.TheVariants as answer
use Rattle.rule_sets.specs.declared.rule_set.Parameter.{Parameter}
use Rattle.endpoint_rules.specs.declared.stop.Stop.{Stop}
use Rattle.endpoint_rules.specs.Endpoints.{at_place, text_for, signed, answered, answered_if, answer_of_leaf, or_later, first_answer, endpoint_for, passed}
use Rattle.endpoint_rules.specs.Laws.{IsRuleFault}
use Rattle.endpoint_rules.specs.Parameters.{Params, given_after, given_step, value_for, missing_text}
use Rattle.rule_sets.specs.Rules.{Rules, WholeLeaf}
use Rattle.endpoint_rules.specs.Scopes.{Env}
use Rattle.endpoint_rules.specs.Urls.{or_bad_url, endpoint_of}

-- it is a value, or a fault of the rules
abbrev IsOutcome : {A : Type 0} → Result A EndpointFault → Type 0
IsOutcome (Ok x) = Unit {0}
IsOutcome (Err fault) = IsRuleFault fault

text_fault : (text : List ℕ) → IsRuleFault (RuleError text)
text_fault text = inl (text, refl)

clash : (place : List ℕ) → IsRuleFault (TypeClash place)
clash place = inr (inr (inr (place, refl)))

then_so : {A B : Type 0} (r : Result A EndpointFault) (f : A → Result B EndpointFault) → IsOutcome r → ((x : A) → IsOutcome (f x)) → IsOutcome (r >>= f)
then_so (Ok x) f h each = each x
then_so (Err fault) f h each = h

placed : {A : Type 0} (place : List ℕ) (r : Result A Stop) → IsOutcome (at_place place r)
placed place (Ok x) = tt
placed place (Err stop) = clash place

url_so : (found : Option Endpoint) → IsOutcome (or_bad_url found)
url_so None = inr (inr (inl refl))
url_so (Some endpoint) = tt

answered_so : (env : Env) (place : List ℕ) (a : Answer) → IsOutcome (answered env place a)
answered_so env place (answer.Endpoint url schemes) =
    then_so (text_for env place url) _ (placed place _) (λ text. then_so (endpoint_of text) _ (url_so _) (λ endpoint. placed place (signed env schemes endpoint)))
answered_so env place (answer.Error wanted) = then_so (text_for env place wanted) _ (placed place _) (λ text. text_fault text)

answered_if_so : (leaf : WholeLeaf) (passing : Option Env) → IsOutcome (answered_if leaf passing)
answered_if_so leaf None = tt
answered_if_so leaf (Some env) = then_so (answered env leaf.place leaf.answer) _ (answered_so env leaf.place leaf.answer) (λ endpoint. tt)

leaf_so : (env : Env) (leaf : WholeLeaf) → IsOutcome (answer_of_leaf env leaf)
leaf_so env leaf = then_so (at_place leaf.place (passed env leaf.conditions)) (answered_if leaf) (placed leaf.place _) (answered_if_so leaf)

later_so : (found : Option Endpoint) (later : Result Endpoint EndpointFault) → IsOutcome later → IsOutcome (or_later found later)
later_so None later h = h
later_so (Some endpoint) later h = tt

leaves_so : (env : Env) (leaves : List WholeLeaf) → IsOutcome (first_answer env leaves)
leaves_so env [] = inr (inl refl)
leaves_so env (leaf ∷ leaves) =
    then_so (answer_of_leaf env leaf) (λ found. or_later found (first_answer env leaves)) (leaf_so env leaf)
    (λ found. later_so found (first_answer env leaves) (leaves_so env leaves))

missing_so : (b : Bool) (name : List ℕ) (given : List (Pair Doc)) → IsOutcome {A = List (Pair Doc)} (if b then Err (RuleError (missing_text name)) else Ok given)
missing_so true name given = text_fault (missing_text name)
missing_so false name given = tt

step_so : (p : Parameter) (value : Option Doc) (given : List (Pair Doc)) → IsOutcome (given_step p value given)
step_so p None given = missing_so p.required p.name given
step_so p (Some value) given = tt

given_so : (params : Params) (given : List (Pair Doc)) (ps : List Parameter) → IsOutcome (given_after params given ps)
given_so params given [] = tt
given_so params given (p ∷ ps) =
    then_so (given_step p (value_for params p) given) (λ more. given_after params more ps) (step_so p (value_for params p) given) (λ more. given_so params more ps)

rules_so : (partitions : List Partition) (params : Params) (rules : Rules) → IsOutcome (endpoint_for partitions params rules)
rules_so partitions params rules =
    then_so (given_after params [] rules.parameters) _ (given_so params [] rules.parameters)
    (λ given. leaves_so (record { partitions = partitions; given = given; assigned = [] }) rules.leaves)

told : (r : Result Endpoint EndpointFault) → IsOutcome r
    → ((endpoint : Endpoint) × (r ≡ Ok endpoint)) ⊎ ((fault : EndpointFault) × IsRuleFault fault × (r ≡ Err fault))
told (Ok endpoint) h = inl (endpoint, refl)
told (Err fault) h = inr (fault, h, refl)

pub have_outcome : (partitions : List Partition) (params : Params) (rules : Rules)
    → ((endpoint : Endpoint) × (endpoint_for partitions params rules ≡ Ok endpoint))
    ⊎ ((fault : EndpointFault) × IsRuleFault fault × (endpoint_for partitions params rules ≡ Err fault))
have_outcome partitions params rules = told _ (rules_so partitions params rules)
