-- The names of commands and arguments: four substitutions on a name's characters, one after another.
use Rattle.std.specs.Prelude.{ℕ, ◌+◌, Bool, false, ◌&&◌, ◌||◌, if◌then◌else◌, List, [], ◌∷◌, length, map, nat_eq, nat_lt}
use Rattle.std.specs.Char.{is_ascii_uppercase, is_ascii_lowercase, is_ascii_digit, to_ascii_lowercase}
use Rattle.std.specs.List.{list_all, list_any}
use Rattle.model_files.specs.declared.names.Stage.{Stage}
use Rattle.model_files.specs.declared.names.Stage.TheVariants.{Free, Capital, Small}

-- the name has a hyphen
abbrev pub has_hyphen : List ℕ → Bool
has_hyphen name = list_any (λ c. nat_eq c 45) name

-- capitals and then an `s`, which is the last
abbrev pub are_capitals_and_s : List ℕ → Bool
are_capitals_and_s [] = false
are_capitals_and_s (c ∷ []) = nat_eq c 115
are_capitals_and_s (c ∷ d ∷ cs) = is_ascii_uppercase c && are_capitals_and_s (d ∷ cs)

-- two or more capitals and then an `s`, which is the last
abbrev pub begins_plural : List ℕ → Bool
begins_plural cs = are_capitals_and_s cs && nat_lt 2 (length cs)

-- two or more capitals and an `s` at the end are lowered, and a hyphen stands before them
abbrev pub plural_apart : List ℕ → List ℕ
plural_apart [] = []
plural_apart (c ∷ cs) = if begins_plural (c ∷ cs) then 45 ∷ map to_ascii_lowercase (c ∷ cs) else c ∷ plural_apart cs

-- a capital and a small letter stand in front
abbrev pub begins_word : List ℕ → Bool
begins_word (c ∷ d ∷ cs) = is_ascii_uppercase c && is_ascii_lowercase d
begins_word _ = false

-- A character that is followed by one capital and one or more small letters gets a hyphen after it.
-- The word is passed over before the next such character is looked for.
abbrev pub words_apart : Stage → List ℕ → List ℕ
words_apart stage [] = []
words_apart Free (c ∷ cs) = c ∷ (if begins_word cs then 45 ∷ words_apart Capital cs else words_apart Free cs)
words_apart Capital (c ∷ cs) = c ∷ words_apart Small cs
words_apart Small (c ∷ cs) =
    c ∷ (if is_ascii_lowercase c then words_apart Small cs else
    if begins_word cs then 45 ∷ words_apart Capital cs else words_apart Free cs)

-- what a walk over the words makes of the characters left: a hyphen stands before a word
abbrev pub behind : Stage → List ℕ → List ℕ
behind Free cs = words_apart Free cs
behind Capital cs = 45 ∷ words_apart Capital cs
behind Small cs = words_apart Small cs

-- where the capitals at the end begin
abbrev pub capitals_start : List ℕ → ℕ
capitals_start [] = 0
capitals_start (c ∷ cs) = if list_all is_ascii_uppercase (c ∷ cs) then 0 else capitals_start cs + 1

-- a capital stands in front
abbrev pub begins_capital : List ℕ → Bool
begins_capital [] = false
begins_capital (c ∷ cs) = is_ascii_uppercase c

abbrev pub is_small : ℕ → Bool
is_small c = is_ascii_lowercase c || is_ascii_digit c

-- a small letter or digit that is followed by a capital gets a hyphen after it, and all is lowered
abbrev pub capitals_apart : List ℕ → List ℕ
capitals_apart [] = []
capitals_apart (c ∷ cs) =
    to_ascii_lowercase c ∷ (if is_small c && begins_capital cs then 45 ∷ capitals_apart cs else capitals_apart cs)

-- the name on the command line of what has this name in a model
unfoldable pub command_name : List ℕ → List ℕ
command_name name = if has_hyphen name then name else capitals_apart (words_apart Free (plural_apart name))
