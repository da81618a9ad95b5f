-- What the laws say.
use Rattle.std.specs.Prelude.{◌≡◌, ◌<◌, ℕ, ◌⊎◌, ◌||◌, Bool, true, nat_eq, List, ◌∷◌, ◌++◌, flat_map, None, Ok, Err}
use Rattle.std.specs.List.{AllByRecursion, list_all}
use Rattle.endpoint_rules.specs.declared.endpoint.Endpoint.{Endpoint}
use Rattle.endpoint_rules.specs.declared.fault.EndpointFault.{EndpointFault}
use Rattle.endpoint_rules.specs.declared.fault.EndpointFault.TheVariants.{RuleError, NoRule, BadUrl, TypeClash}
use Rattle.rule_sets.specs.declared.partitions.Partition.{Partition}
use Rattle.endpoint_rules.specs.Endpoints.{endpoint_for, first_answer, passed}
use Rattle.uri_texts.specs.declared.escapes.Slashes.TheVariants.{Escaped}
use Rattle.uri_texts.specs.Escapes.{escaped_byte, is_unreserved}
use Rattle.endpoint_rules.specs.Parameters.{Params}
use Rattle.rule_sets.specs.Rules.{Rules, WholeLeaf}
use Rattle.endpoint_rules.specs.Scopes.{Env}

-- it is a fault of the rules, of none of memory
abbrev pub IsRuleFault : EndpointFault → Type 0
IsRuleFault fault =
    ((text : List ℕ) × (fault ≡ RuleError text)) ⊎ ((fault ≡ NoRule) ⊎ ((fault ≡ BadUrl) ⊎ ((place : List ℕ) × (fault ≡ TypeClash place))))

-- rules give one endpoint or one fault
abbrev pub EndpointsHaveOutcome : Type 0
EndpointsHaveOutcome = (partitions : List Partition) (params : Params) (rules : Rules)
    → ((endpoint : Endpoint) × (endpoint_for partitions params rules ≡ Ok endpoint))
    ⊎ ((fault : EndpointFault) × IsRuleFault fault × (endpoint_for partitions params rules ≡ Err fault))

-- a leaf with a condition that doesn't hold changes nothing, wherever it stands
abbrev pub FalseLeavesAreFree : Type 0
FalseLeavesAreFree = (env : Env) (before after : List WholeLeaf) (leaf : WholeLeaf) → passed env leaf.conditions ≡ Ok None
    → first_answer env (before ++ leaf ∷ after) ≡ first_answer env (before ++ after)

abbrev pub is_plain : ℕ → Bool
is_plain b = is_unreserved b || nat_eq b 37

-- the escapes of bytes have none outside `A-Za-z0-9-._~%`
abbrev pub EscapesArePlain : Type 0
EscapesArePlain = (bytes : List ℕ) → AllByRecursion (λ b. b < 256) bytes → list_all is_plain (flat_map (escaped_byte Escaped) bytes) ≡ true
