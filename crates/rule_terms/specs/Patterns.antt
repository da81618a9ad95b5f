-- The patterns of partitions: `^`, parts joined by `\-`, and `$`. A part is a word of small letters and digits,
-- such words between `|` in parentheses, `\w+` or `\d+`.
use Rattle.std.specs.Prelude.{ℕ, ◌&&◌, Bool, true, false, if◌then◌else◌, List, [], ◌∷◌, codes, bytes_eq, Option, None, Some, option_map, option_and_then}
use Rattle.std.specs.Char.{is_ascii_digit}
use Rattle.std.specs.List.{list_any, list_all}
use Rattle.rule_terms.specs.declared.pattern.Part.{Part}
use Rattle.rule_terms.specs.declared.pattern.Part.TheVariants.{Words, Letters, Digits}
use Rattle.rule_terms.specs.Characters.{is_made_of, is_small, is_letter}
use Rattle.texts.specs.Cut.{cut, is_among}
use Rattle.texts.specs.Marks.{without_first, without_last}

-- what stands between `^` and `$`
abbrev pub inside_anchors : List ℕ → Option (List ℕ)
inside_anchors text = option_and_then (without_last 36) (without_first 94 text)

abbrev pub inside_parentheses : List ℕ → Option (List ℕ)
inside_parentheses text = option_and_then (without_last 41) (without_first 40 text)

-- a backslash stands before each hyphen
abbrev pub before_hyphen : Bool → List ℕ → Option (List ℕ)
before_hyphen is_last piece = if is_last then Some piece else without_last 92 piece

abbrev pub is_word : List ℕ → Bool
is_word word = is_made_of is_small word

abbrev pub are_words : List (List ℕ) → Bool
are_words words = list_all is_word words

abbrev pub words_of : List (List ℕ) → Option Part
words_of words = if are_words words then Some (Words words) else None

abbrev pub words_in : List ℕ → Option (List ℕ) → Option Part
words_in text (Some inner) = words_of (cut (is_among (codes "|")) inner)
words_in text None = words_of (text ∷ [])

abbrev pub part_of : List ℕ → Option Part
part_of text =
    if bytes_eq text (92 ∷ 119 ∷ 43 ∷ []) then Some Letters else
    if bytes_eq text (92 ∷ 100 ∷ 43 ∷ []) then Some Digits else
    words_in text (inside_parentheses text)

abbrev pub is_last : {A : Type 0} → List A → Bool
is_last [] = true
is_last (x ∷ xs) = false

-- the parts for what stands between the hyphens
abbrev pub parts_of : List (List ℕ) → Option (List Part)
parts_of [] = Some []
parts_of (piece ∷ pieces) =
    option_and_then (λ part. option_map (λ parts. part ∷ parts) (parts_of pieces))
    (option_and_then part_of (before_hyphen (is_last pieces) piece))

-- the parts of a pattern, if a text is one
abbrev pub pattern_of : List ℕ → Option (List Part)
pattern_of text = option_and_then (λ inner. parts_of (cut (is_among (codes "-")) inner)) (inside_anchors text)

-- a word fits a part: one of its words, letters for `\w+`, or digits for `\d+`
abbrev pub part_fits : Part → List ℕ → Bool
part_fits (Words words) word = list_any (λ listed. bytes_eq listed word) words
part_fits Letters word = is_made_of is_letter word
part_fits Digits word = is_made_of is_ascii_digit word

-- as many words as parts, each of which fits
abbrev pub all_fit : List Part → List (List ℕ) → Bool
all_fit [] [] = true
all_fit [] (word ∷ words) = false
all_fit (part ∷ parts) [] = false
all_fit (part ∷ parts) (word ∷ words) = part_fits part word && all_fit parts words

-- a region fits a pattern
abbrev pub fits : List Part → List ℕ → Bool
fits pattern region = all_fit pattern (cut (is_among (codes "-")) region)
