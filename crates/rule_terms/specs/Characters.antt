-- Texts made of characters of one kind.
use Rattle.std.specs.Prelude.{ℕ, ◌||◌, Bool, true, false, nat_eq, List, [], ◌∷◌}
use Rattle.std.specs.Char.{is_ascii_digit, is_ascii_lowercase, is_ascii_alphanumeric}
use Rattle.std.specs.List.{list_all}

abbrev pub is_empty : List ℕ → Bool
is_empty [] = true
is_empty (c ∷ cs) = false

-- one character or more, each of which passes a test
abbrev pub is_made_of : (ℕ → Bool) → List ℕ → Bool
is_made_of test [] = false
is_made_of test (c ∷ cs) = list_all test (c ∷ cs)

-- a small letter or a digit
abbrev pub is_small : ℕ → Bool
is_small c = is_ascii_lowercase c || is_ascii_digit c

-- a letter, a digit or `_`
abbrev pub is_letter : ℕ → Bool
is_letter c = is_ascii_alphanumeric c || nat_eq c 95
