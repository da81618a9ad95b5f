-- The endpoint that rules give: that of the first leaf, in the order of the document, all of whose conditions
-- hold. A leaf's conditions are looked at in order, up to the first that doesn't hold.
use Rattle.std.specs.Prelude.{ℕ, Bool, true, false, if◌then◌else◌, List, [], ◌∷◌, map, Option, None, Some, Result, Ok, Err, codes, bytes_eq}
use Rattle.json_doc.specs.declared.doc.Doc.{Doc}
use Rattle.texts.specs.Calls.{◌>>=◌}
use Rattle.endpoint_rules.specs.declared.endpoint.Endpoint.{Endpoint}
use Rattle.rule_terms.specs.declared.expression.Expression.{Expression}
use Rattle.endpoint_rules.specs.declared.fault.EndpointFault.{EndpointFault}
use Rattle.endpoint_rules.specs.declared.fault.EndpointFault.TheVariants as fault
use Rattle.rule_sets.specs.declared.partitions.Partition.{Partition}
use Rattle.rule_sets.specs.declared.rule_set.Answer.{Answer}
use Rattle.rule_sets.specs.declared.rule_set.Answer.TheVariants as answer
use Rattle.rule_sets.specs.declared.rule_set.Condition.{Condition}
use Rattle.endpoint_rules.specs.declared.stop.Stop.{Stop}
use Rattle.rule_terms.specs.Attributes.{member_of}
use Rattle.endpoint_rules.specs.Kinds.{holds}
use Rattle.endpoint_rules.specs.Parameters.{Params, given_of}
use Rattle.rule_sets.specs.Rules.{Rules, WholeLeaf}
use Rattle.endpoint_rules.specs.Scopes.{Env, assigned_too}
use Rattle.rule_terms.specs.Seen.{text_of, text_at, text_in}
use Rattle.endpoint_rules.specs.Urls.{endpoint_of}
use Rattle.endpoint_rules.specs.Values.{value_of, all_of, expanded_in, or_clash}

abbrev pub assigned_if : Option (List ℕ) → Doc → Env → Env
assigned_if None value env = env
assigned_if (Some name) value env = assigned_too name value env

-- what is seen behind conditions that all hold; nothing where one doesn't
abbrev pub passed : Env → List Condition → Result (Option Env) Stop
passed env [] = Ok (Some env)
passed env (c ∷ cs) = do
  value ← value_of env c.call
  if holds value then passed (assigned_if c.assign value env) cs else Ok None

abbrev pub passing_to : Bool → Env → Option Env
passing_to true env = Some env
passing_to false env = None

-- a leaf that stops is a clash at its place
abbrev pub at_place : {A : Type 0} → List ℕ → Result A Stop → Result A EndpointFault
at_place place (Ok x) = Ok x
at_place place (Err stop) = Err (fault.TypeClash place)

-- the text that an expression must have
abbrev pub text_for : Env → List ℕ → Expression → Result (List ℕ) EndpointFault
text_for env place wanted = at_place place (value_of env wanted >>= (λ value. or_clash (text_of value)))

-- the way to sign that counts
abbrev pub is_sigv4 : Doc → Bool
is_sigv4 scheme = bytes_eq (text_at (codes "name") scheme) (codes "sigv4")

-- the first of these that counts
abbrev pub first_sigv4 : List Doc → Option Doc
first_sigv4 [] = None
first_sigv4 (scheme ∷ schemes) = if is_sigv4 scheme then Some scheme else first_sigv4 schemes

-- the endpoint with the names of a way to sign
abbrev pub signed_by : Doc → Endpoint → Endpoint
signed_by scheme endpoint = record endpoint {
  signing_name = text_in (member_of (codes "signingName") scheme);
  signing_region = text_in (member_of (codes "signingRegion") scheme);
}

abbrev pub signed_if : Option Doc → Endpoint → Endpoint
signed_if None endpoint = endpoint
signed_if (Some scheme) endpoint = signed_by scheme endpoint

-- the endpoint with the names of the first way to sign that counts, of all of which each text is expanded
abbrev pub signed : Env → List Doc → Endpoint → Result Endpoint Stop
signed env schemes endpoint = do
  expanded ← all_of (map (expanded_in env) schemes)
  Ok (signed_if (first_sigv4 expanded) endpoint)

-- the answer of the leaf at a place, whose conditions hold
abbrev pub answered : Env → List ℕ → Answer → Result Endpoint EndpointFault
answered env place (answer.Endpoint url schemes) = do
  text ← text_for env place url
  endpoint ← endpoint_of text
  at_place place (signed env schemes endpoint)
answered env place (answer.Error wanted) = do
  text ← text_for env place wanted
  Err (fault.RuleError text)

abbrev pub answered_if : WholeLeaf → Option Env → Result (Option Endpoint) EndpointFault
answered_if leaf None = Ok None
answered_if leaf (Some env) = do
  endpoint ← answered env leaf.place leaf.answer
  Ok (Some endpoint)

-- what a leaf answers, if all of its conditions hold
abbrev pub answer_of_leaf : Env → WholeLeaf → Result (Option Endpoint) EndpointFault
answer_of_leaf env leaf = at_place leaf.place (passed env leaf.conditions) >>= answered_if leaf

abbrev pub or_later : Option Endpoint → Result Endpoint EndpointFault → Result Endpoint EndpointFault
or_later (Some endpoint) later = Ok endpoint
or_later None later = later

-- the answer of the first leaf that has one
abbrev pub first_answer : Env → List WholeLeaf → Result Endpoint EndpointFault
first_answer env [] = Err fault.NoRule
first_answer env (leaf ∷ leaves) = answer_of_leaf env leaf >>= (λ found. or_later found (first_answer env leaves))

-- what rules answer for these parameters; one that is missing comes first
abbrev pub endpoint_for : List Partition → Params → Rules → Result Endpoint EndpointFault
endpoint_for partitions params rules = do
  given ← given_of params rules.parameters
  first_answer (record { partitions = partitions; given = given; assigned = [] }) rules.leaves
