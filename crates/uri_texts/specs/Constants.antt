-- The constants of a query: `name=value` with `&` between each two, behind the first `?` of a URI.
use Rattle.std.specs.Prelude.{ℕ, Bool, not, List, [], ◌∷◌, map, filter, bytes_eq, None, Some}
use Rattle.texts.specs.Cut.{cut, is_among}
use Rattle.texts.specs.Marks.{around_first}
use Rattle.uri_texts.specs.declared.escapes.Slashes.TheVariants.{Escaped}
use Rattle.uri_texts.specs.Escapes.{escaped}

-- a name and its value, escaped as they stand; without `=` the value is empty
abbrev pub constant : List ℕ → List ℕ × List ℕ
constant part = elim (around_first 61 part) [
  | Some halves ↦ (escaped Escaped halves.0, escaped Escaped halves.1)
  | None ↦ (escaped Escaped part, [])
]

abbrev pub is_there : List ℕ → Bool
is_there part = not (bytes_eq part [])

-- the constants in their order; an empty part is none
abbrev pub constants : List ℕ → List (List ℕ × List ℕ)
constants uri = elim (around_first 63 uri) [
  | Some halves ↦ map constant (filter is_there (cut (is_among (38 ∷ [])) halves.1))
  | None ↦ []
]
