-- The variables of an environment.
use Rattle.std.specs.Prelude.{ℕ, if◌then◌else◌, Option, None, Some, List, [], ◌∷◌, bytes_eq}

-- the value in the first pair of a name
abbrev pub first_value : List ℕ → List (List ℕ × List ℕ) → Option (List ℕ)
first_value name [] = None
first_value name (p ∷ ps) = if bytes_eq p.0 name then Some p.1 else first_value name ps

-- an empty value counts as none
abbrev pub unless_empty : Option (List ℕ) → Option (List ℕ)
unless_empty None = None
unless_empty (Some []) = None
unless_empty (Some (c ∷ cs)) = Some (c ∷ cs)

-- what a variable is set to
abbrev pub value_of : List ℕ → List (List ℕ × List ℕ) → Option (List ℕ)
value_of name pairs = unless_empty (first_value name pairs)
