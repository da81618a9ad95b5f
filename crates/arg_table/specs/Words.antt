-- The words of a line, cut at option words. A word is judged by its bytes in UTF-8.
use Rattle.std.specs.Prelude.{ℕ, Bool, ◌&&◌, ◌==◌, List, [], ◌∷◌, ◌++◌, if◌then◌else◌, length, drop, nat_eq, nat_lt, Option, None, Some, option_to_list, codes, encode_utf8_all}
use Rattle.std.specs.List.{list_any, starts_with, before_first, after_first}
use Rattle.std.specs.Str.{chars}
use Rattle.arg_table.specs.declared.words.Group.{Group}
use Rattle.arg_table.specs.declared.words.OptionWord.{OptionWord}

-- these bytes are an option: `--` and more
abbrev pub has_dashes : List ℕ → Bool
has_dashes bytes = starts_with nat_eq bytes (codes "--") && nat_lt 2 (length bytes)

-- a word is an option; all others are plain
abbrev pub is_option : List ℕ → Bool
is_option word = has_dashes (encode_utf8_all word)

abbrev pub is_equals_sign : ℕ → Bool
is_equals_sign b = b == 61

-- what follows the first `=`, where there is one
abbrev pub joined_in : List ℕ → Option (List ℕ)
joined_in bytes = if list_any is_equals_sign bytes then Some (chars (after_first is_equals_sign bytes)) else None

-- what an option word says behind its dashes: its name ends at the first `=`, and what follows is its joined value
abbrev pub option_in : List ℕ → OptionWord
option_in bytes = record { name = chars (before_first is_equals_sign bytes); joined = joined_in bytes }

-- the option that a word is
abbrev pub option_of : List ℕ → Option OptionWord
option_of word = if is_option word then Some (option_in (drop 2 (encode_utf8_all word))) else None

abbrev pub group_of : OptionWord → List (List ℕ) → Group
group_of option words = record { option = option.name; joined = option.joined; words = words }

-- the values that stand at an option: a joined one, then the plain words behind it
abbrev pub values_of : Group → List (List ℕ)
values_of g = option_to_list g.joined ++ g.words

-- words cut at option words: the plain ones in front, and each option with the plain words behind it
pub record Cut : Type 0 where
  pub plain : List (List ℕ)
  pub groups : List Group

abbrev pub before : List ℕ → Option OptionWord → Cut → Cut
before word None rest = record { plain = word ∷ rest.plain; groups = rest.groups }
before word (Some option) rest = record { plain = []; groups = group_of option rest.plain ∷ rest.groups }

abbrev pub cut : List (List ℕ) → Cut
cut [] = record { plain = []; groups = [] }
cut (w ∷ ws) = before w (option_of w) (cut ws)
