-- Paths of values in a value: `.` and the name of a member or the key of a map, or a place in a list in
-- brackets, from the outermost value to the innermost.
use Rattle.std.specs.Prelude.{ℕ, ◌==◌, if◌then◌else◌, List, [], ◌∷◌, ◌++◌}
use Rattle.std.specs.Fmt.{decimal}

abbrev pub below : List ℕ → List ℕ → List ℕ
below path key = path ++ 46 ∷ [] ++ key

abbrev pub item_path : List ℕ → ℕ → List ℕ
item_path path n = path ++ 91 ∷ [] ++ decimal n ++ 93 ∷ []

-- a path as faults have it: without the `.` of the first name
abbrev pub shown : List ℕ → List ℕ
shown [] = []
shown (c ∷ cs) = if c == 46 then cs else c ∷ cs
