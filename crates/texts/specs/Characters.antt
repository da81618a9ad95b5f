-- Texts as lists of characters.
use Rattle.std.specs.Prelude.{ℕ, List}
use Rattle.std.specs.Char.{IsScalar}
use Rattle.std.specs.List.{AllByRecursion}

-- made of Unicode's scalar values (The Unicode Standard, section 3.9, D76), of which the halves of
-- surrogate pairs are none
abbrev pub IsText : List ℕ → Type 0
IsText cs = AllByRecursion IsScalar cs
