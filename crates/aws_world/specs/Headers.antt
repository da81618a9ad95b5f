-- Headers, each a name and its value (RFC 9110, sections 5.1 and 5.2).
use Rattle.std.specs.Prelude.{ℕ, List, [], ◌∷◌, Option, None, Some, if◌then◌else◌}
use Rattle.std.specs.Str.{str_eq_ignore_ascii_case}

-- the values of a name, which is compared without regard to letter case
abbrev pub named : List ℕ → List (List ℕ × List ℕ) → List (List ℕ)
named name [] = []
named name (field ∷ fields) =
    if str_eq_ignore_ascii_case field.0 name then field.1 ∷ named name fields else named name fields

-- the first of a list
abbrev pub first_of : {A : Type 0} → List A → Option A
first_of [] = None
first_of (x ∷ xs) = Some x

-- the value of a header: the first of its name
abbrev pub header_of : List ℕ → List (List ℕ × List ℕ) → Option (List ℕ)
header_of name fields = first_of (named name fields)
