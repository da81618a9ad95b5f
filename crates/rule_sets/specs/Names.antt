-- The names that are known at a place of a rule set: the parameters, and what conditions on the path assign.
use Rattle.std.specs.Prelude.{ℕ, Bool, List, [], ◌∷◌, ◌++◌, Option, None, Some, option_and_then, bytes_eq, codes}
use Rattle.std.specs.List.{list_any}
use Rattle.json_doc.specs.declared.doc.Doc.{Doc}
use Rattle.rule_terms.specs.Attributes.{member_of}
use Rattle.rule_terms.specs.Seen.{text_in, fields_of, or_empty}
use Rattle.texts.specs.Keys.{keys}

abbrev pub Known : Type 0
Known = List (List ℕ)

abbrev pub is_known : List ℕ → Known → Bool
is_known name known = list_any (λ other. bytes_eq other name) known

-- these, and the name that a condition assigns, if it assigns one
abbrev pub with_name : Known → Option (List ℕ) → Known
with_name known None = known
with_name known (Some name) = known ++ name ∷ []

abbrev pub with_condition : Doc → Known → Known
with_condition condition known = with_name known (text_in (member_of (codes "assign") condition))

-- these, and the names that conditions assign
abbrev pub with_conditions : List Doc → Known → Known
with_conditions [] known = known
with_conditions (c ∷ cs) known = with_conditions cs (with_condition c known)

-- the names of parameters
abbrev pub parameter_names : Option Doc → Known
parameter_names parameters = keys (or_empty (option_and_then fields_of parameters))
