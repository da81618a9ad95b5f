-- The labels of a URI or host prefix, in braces.
use Rattle.std.specs.Prelude.{ℕ, if◌then◌else◌, List, [], ◌∷◌, Option, None, Some, nat_eq}
use Rattle.std.specs.Option.{option_map}

-- the characters before the first `?`
abbrev pub before_query : List ℕ → List ℕ
before_query [] = []
before_query (c ∷ cs) = if nat_eq c 63 then [] else c ∷ before_query cs

-- the characters before the brace that closes, where no brace opens before it
abbrev pub closed : List ℕ → Option (List ℕ)
closed [] = None
closed (c ∷ cs) =
    if nat_eq c 125 then Some [] else
    if nat_eq c 123 then None else option_map (λ label. c ∷ label) (closed cs)

-- a label without the `+` at its end
abbrev pub without_plus : List ℕ → List ℕ
without_plus [] = []
without_plus (c ∷ []) = if nat_eq c 43 then [] else c ∷ []
without_plus (c ∷ d ∷ cs) = c ∷ without_plus (d ∷ cs)

abbrev pub label_before : Option (List ℕ) → List (List ℕ) → List (List ℕ)
label_before None others = others
label_before (Some label) others = without_plus label ∷ others

-- the names in the labels: a brace without its partner is text
abbrev pub labels_in : List ℕ → List (List ℕ)
labels_in [] = []
labels_in (c ∷ cs) = if nat_eq c 123 then label_before (closed cs) (labels_in cs) else labels_in cs

-- the names in the labels of a URI or host prefix, which stand before its first `?`
unfoldable pub labels : List ℕ → List (List ℕ)
labels template = labels_in (before_query template)
