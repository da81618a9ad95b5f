-- Blanks at the ends of a text (RFC 9110, section 5.6.3, names the two).
use Rattle.std.specs.Prelude.{ℕ, Bool, ◌==◌, ◌||◌, if◌then◌else◌, List, [], ◌∷◌, reverse}

-- a space or a tab
abbrev pub is_blank : ℕ → Bool
is_blank c = (c == 32) || (c == 9)

abbrev pub without_first_blanks : List ℕ → List ℕ
without_first_blanks [] = []
without_first_blanks (c ∷ cs) = if is_blank c then without_first_blanks cs else c ∷ cs

-- without the blanks at both ends
abbrev pub trimmed : List ℕ → List ℕ
trimmed text = reverse (without_first_blanks (reverse (without_first_blanks text)))
