-- Blanks at the ends of a text, in bytes.
use Rattle.std.specs.Prelude.{ℕ, ◌-◌, Bool, ◌||◌, List, length, take, drop, reverse, nat_eq}
use Rattle.std.specs.List.{take_while}

-- a space or a tab
abbrev pub is_blank : ℕ → Bool
is_blank b = nat_eq b 32 || nat_eq b 9

-- how many blanks a text begins with
abbrev pub blanks_before : List ℕ → ℕ
blanks_before text = length (take_while is_blank text)

-- how many blanks a text ends with
abbrev pub blanks_behind : List ℕ → ℕ
blanks_behind text = length (take_while is_blank (reverse text))

-- without the blanks that it begins with
abbrev pub front_trimmed : List ℕ → List ℕ
front_trimmed text = drop (blanks_before text) text

-- without the blanks that it ends with
abbrev pub end_trimmed : List ℕ → List ℕ
end_trimmed text = take (length text - blanks_behind text) text

-- without either
abbrev pub trimmed : List ℕ → List ℕ
trimmed text = end_trimmed (front_trimmed text)
