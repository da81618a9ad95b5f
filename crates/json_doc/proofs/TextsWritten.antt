-- Escapes and texts that were written in either layout, as the grammar spells them.
use Rattle.std.proofs.Common.{◌≡◌, ℕ, ◌+◌, ◌*◌, ◌-◌, ◌/◌, ◌%◌, ◌<◌, ◌≤◌, ◌==◌, ◌||◌, true, false, cond, inl, inr, ⊎_elim, List, [], ◌∷◌, ◌++◌, Some, None, refl, sym, ap, ◌∙◌, subst, arith, append_assoc, append-nil}
use Rattle.std.specs.Prelude.{encode_utf8, encode_utf8_all}
use Rattle.std.specs.Char.{IsScalar, digit_char}
use Rattle.std.specs.Char.Escape.{encode_utf16}
use Rattle.std.specs.Char.Utf16.{is_high_surrogate, is_low_surrogate}
use Rattle.std.specs.List.{AllByRecursion, flat_map}
use Rattle.std.specs.Option.{option_map_or}
use Rattle.std.proofs.Math.Utf8.{scalar_cases}
use Rattle.std.proofs.lemmas.Bool.{or_cases, eqb-true, and_parts, leb-true, cases_lt, lt-ltb, le-ltb}
use Rattle.std.proofs.lemmas.Bool.Decides.{nat_tests}
use Rattle.std.proofs.lemmas.Str.{digit_value-digit_char, encode_ascii, encodes-append}
use Rattle.json_doc.specs.declared.layout.Layout.{Layout}
use Rattle.json_doc.specs.declared.layout.Layout.TheVariants.{Compact, Indented}
use Rattle.texts.specs.Characters.{IsText}
use Rattle.json_doc.specs.Escapes.{letter_of, unit_escape, is_bare, escaped, quoted}
use Rattle.json_doc.specs.Grammar.{String}
use Rattle.json_doc.specs.TextToken.{named_char, IsUnit, SpellsChar, unescaped, named, unit, pair, Spells}
use Rattle.json_doc.proofs.TokenParts.{chosen}

-- characters below 128, which are their own bytes
abbrev pub IsLow : List ℕ → Type 0
IsLow bs = AllByRecursion (λ b. b < 128) bs

pub IsLow-append : (xs ys : List ℕ) → IsLow xs → IsLow ys → IsLow (xs ++ ys)
IsLow-append [] ys low low' = low'
IsLow-append (x ∷ xs) ys low low' = (low.0, IsLow-append xs ys low.1 low')

pub low_bytes : (bs : List ℕ) → IsLow bs → encode_utf8_all bs ≡ bs
low_bytes [] low = refl
low_bytes (b ∷ bs) low = ap (λ cs. cs ++ encode_utf8_all bs) (encode_ascii b low.0) ∙ ap (λ cs. b ∷ cs) (low_bytes bs low.1)

-- What stands in front of other bytes, of two texts or of one and ASCII before it.

pub split_bytes : (cs ds rest : List ℕ) → encode_utf8_all (cs ++ ds) ++ rest ≡ encode_utf8_all cs ++ (encode_utf8_all ds ++ rest)
split_bytes cs ds rest = ap (λ bs. bs ++ rest) (encodes-append cs ds) ∙ append_assoc (encode_utf8_all cs) (encode_utf8_all ds) rest

pub low_front : (cs ds rest : List ℕ) → IsLow cs → encode_utf8_all (cs ++ ds) ++ rest ≡ cs ++ (encode_utf8_all ds ++ rest)
low_front cs ds rest low = split_bytes cs ds rest ∙ ap (λ bs. bs ++ (encode_utf8_all ds ++ rest)) (low_bytes cs low)

-- The letters of escapes.

-- the letter of an escape, and that reading gives its character
abbrev IsLetter : ℕ → ℕ → Type 0
IsLetter c l = (named_char l ≡ Some c) × (l < 128)

letter_at : (c n l m : ℕ) → (c == n) ≡ true → Some m ≡ Some l → named_char m ≡ Some n → m < 128 → IsLetter c l
letter_at c n l m here is reads low =
    let same : c ≡ n = eqb-true c n here in
    let letter : m ≡ l = cc in
    (subst (λ k. named_char k ≡ Some c) letter (reads ∙ ap Some (sym same)), omega arith)

quote_or_backslash : (c l : ℕ) → (c == 34 || c == 92) ≡ true → Some c ≡ Some l → IsLetter c l
quote_or_backslash c l here is =
    let letter : c ≡ l = cc in
    ⊎_elim (λ e. letter_at c 34 l 34 e (ap Some (sym (eqb-true c 34 e) ∙ letter)) refl (omega arith))
    (λ e. letter_at c 92 l 92 e (ap Some (sym (eqb-true c 92 e) ∙ letter)) refl (omega arith)) (or_cases _ _ here)

letter_is : (c l : ℕ) → letter_of c ≡ Some l → IsLetter c l
letter_is c l e = elim (chosen (c == 34 || c == 92) _ _ _ e) [
  | inl h ↦ quote_or_backslash c l h.0 h.1
  | inr h ↦ elim (chosen (c == 8) _ _ _ h.1) [
    | inl h ↦ letter_at c 8 l 98 h.0 h.1 refl (omega arith)
    | inr h ↦ elim (chosen (c == 9) _ _ _ h.1) [
      | inl h ↦ letter_at c 9 l 116 h.0 h.1 refl (omega arith)
      | inr h ↦ elim (chosen (c == 10) _ _ _ h.1) [
        | inl h ↦ letter_at c 10 l 110 h.0 h.1 refl (omega arith)
        | inr h ↦ elim (chosen (c == 12) _ _ _ h.1) [
          | inl h ↦ letter_at c 12 l 102 h.0 h.1 refl (omega arith)
          | inr h ↦ elim (chosen (c == 13) _ _ _ h.1) [
            | inl h ↦ letter_at c 13 l 114 h.0 h.1 refl (omega arith)
            | inr h ↦ let none = h.1 in cc
          ]
        ]
      ]
    ]
  ]
]

-- Units of UTF-16.

abbrev digits_of : ℕ → List ℕ
digits_of u = digit_char (u / 4096) ∷ digit_char (u / 256 % 16) ∷ digit_char (u / 16 % 16) ∷ digit_char (u % 16) ∷ []

-- a number of 16 bits by its four digits
four_digits : (u : ℕ) → u < 65536 → ((u / 4096 * 16 + u / 256 % 16) * 16 + u / 16 % 16) * 16 + u % 16 ≡ u
four_digits u small = omega arith

unit_is : (u : ℕ) → u < 65536 → IsUnit (digits_of u) u
unit_is u small =
    let a = digit_value-digit_char (u / 4096) (omega arith) in
    let b = digit_value-digit_char (u / 256 % 16) (omega arith) in
    let c = digit_value-digit_char (u / 16 % 16) (omega arith) in
    let d = digit_value-digit_char (u % 16) (omega arith) in
    let whole = four_digits u small in
    (refl, (omega arith, (omega arith, (omega arith, (omega arith, tt)))), omega arith)

low_digit : (d : ℕ) → d < 16 → digit_char d < 128
low_digit d small = grind (arith, nat_tests)

unit_low : (u : ℕ) → u < 65536 → IsLow (unit_escape u)
unit_low u small = (omega arith, (omega arith, (low_digit _ (omega arith), (low_digit _ (omega arith), (low_digit _ (omega arith), (low_digit _ (omega arith), tt))))))

-- Characters.

-- what is written of a character that has no letter
abbrev unlettered : Layout → ℕ → List ℕ
unlettered layout c = cond (is_bare layout c) (c ∷ []) (flat_map unit_escape (encode_utf16 c))

-- the bytes of what is written of a character spell it
abbrev IsWritten : ℕ → List ℕ → Type 0
IsWritten c cs = SpellsChar c (encode_utf8_all cs)

low_written : (c : ℕ) (cs : List ℕ) → IsLow cs → SpellsChar c cs → IsWritten c cs
low_written c cs low spells = subst (SpellsChar c) (sym (low_bytes cs low)) spells

letter_written : (c l : ℕ) → letter_of c ≡ Some l → IsWritten c (92 ∷ l ∷ [])
letter_written c l e = let letter = letter_is c l e in low_written c (92 ∷ l ∷ []) (omega arith, (letter.1, tt)) (named letter.0 refl)

-- no control is bare in either layout
bare_from : (layout : Layout) (c : ℕ) → is_bare layout c ≡ true → 32 ≤ c
bare_from Compact c bare = leb-true 32 c (and_parts _ _ bare).0
bare_from Indented c bare = leb-true 32 c bare

bare_written : (layout : Layout) (c : ℕ) → IsScalar c → letter_of c ≡ None → is_bare layout c ≡ true → IsWritten c (c ∷ [])
bare_written layout c scalar none bare =
    let quote : c ≡ 34 → ⊥ = λ e. let letter = subst (λ k. letter_of k ≡ None) e none in cc in
    let backslash : c ≡ 92 → ⊥ = λ e. let letter = subst (λ k. letter_of k ≡ None) e none in cc in
    unescaped (scalar, bare_from layout c bare, quote, backslash) (append-nil (encode_utf8 c))

unit_written : (c : ℕ) → IsScalar c → c < 65536 → IsWritten c (flat_map unit_escape (encode_utf16 c))
unit_written c scalar small =
    subst (λ b. IsWritten c (flat_map unit_escape (cond b (c ∷ []) ((0xD800 + (c - 0x10000) / 0x400) ∷ (0xDC00 + (c - 0x10000) % 0x400) ∷ [])))) (sym (lt-ltb c 65536 small))
    (low_written c (unit_escape c) (unit_low c small) (unit (unit_is c small) scalar refl))

high_unit : (k : ℕ) → k < 1048576 → is_high_surrogate (0xD800 + k / 0x400) ≡ true
high_unit k small = grind (arith, nat_tests)

low_unit : (k : ℕ) → is_low_surrogate (0xDC00 + k % 0x400) ≡ true
low_unit k = grind (arith, nat_tests)

pair_written : (c : ℕ) → 65536 ≤ c → c < 1114112 → IsWritten c (flat_map unit_escape (encode_utf16 c))
pair_written c wide most =
    let u : ℕ = 0xD800 + (c - 0x10000) / 0x400 in
    let v : ℕ = 0xDC00 + (c - 0x10000) % 0x400 in
    let short : u < 65536 = omega arith in
    let short' : v < 65536 = omega arith in
    let low = IsLow-append (unit_escape u) (unit_escape v) (unit_low u short) (unit_low v short') in
    let spells = pair (digits_of u) (digits_of v) (unit_is u short) (high_unit (c - 0x10000) (omega arith)) (unit_is v short') (low_unit (c - 0x10000)) (omega arith) refl in
    subst (λ b. IsWritten c (flat_map unit_escape (cond b (c ∷ []) (u ∷ v ∷ [])))) (sym (le-ltb c 65536 wide))
    (low_written c (unit_escape u ++ unit_escape v) low spells)

units_written : (c : ℕ) → IsScalar c → IsWritten c (flat_map unit_escape (encode_utf16 c))
units_written c scalar = elim (cases_lt c 65536) [
  | inl small ↦ unit_written c scalar small
  | inr wide ↦ pair_written c wide (⊎_elim (λ h. omega arith) (λ h. h.1) (scalar_cases c scalar))
]

-- a character without a letter
plainly_written : (layout : Layout) (c : ℕ) → IsScalar c → letter_of c ≡ None → IsWritten c (unlettered layout c)
plainly_written layout c scalar none =
    elim (is_bare layout c) as (λ b. is_bare layout c ≡ b → IsWritten c (cond b (c ∷ []) (flat_map unit_escape (encode_utf16 c))))
    [ true ↦ (λ bare. bare_written layout c scalar none bare) | false ↦ (λ other. units_written c scalar) ] refl

escaped_written : (layout : Layout) (c : ℕ) → IsScalar c → IsWritten c (escaped layout c)
escaped_written layout c scalar =
    elim (letter_of c) as (λ o. letter_of c ≡ o → IsWritten c (option_map_or (λ letter. 92 ∷ letter ∷ []) o (unlettered layout c)))
    [ Some l ↦ (λ e. letter_written c l e) | None ↦ (λ e. plainly_written layout c scalar e) ] refl

-- Texts.

spelled : (layout : Layout) (cs : List ℕ) → IsText cs → Spells cs (encode_utf8_all (flat_map (escaped layout) cs))
spelled layout [] text = refl
spelled layout (c ∷ cs) text =
    let front : List ℕ = encode_utf8_all (escaped layout c) in
    let others : List ℕ = encode_utf8_all (flat_map (escaped layout) cs) in
    (front, others, escaped_written layout c text.0, spelled layout cs text.1, encodes-append (escaped layout c) (flat_map (escaped layout) cs))

-- a text in quotation marks stands in front as a string
pub quoted-String : (layout : Layout) (t rest : List ℕ) → IsText t → String (encode_utf8_all (quoted layout t) ++ rest) t rest
quoted-String layout t rest text =
    let chars : List ℕ = flat_map (escaped layout) t in
    let mark : IsLow (34 ∷ []) = (omega arith, tt) in
    let bytes : encode_utf8_all (chars ++ 34 ∷ []) ++ rest ≡ encode_utf8_all chars ++ 34 ∷ rest
    = split_bytes chars (34 ∷ []) rest ∙ ap (λ bs. encode_utf8_all chars ++ (bs ++ rest)) (low_bytes (34 ∷ []) mark) in
    (encode_utf8_all (chars ++ 34 ∷ []) ++ rest, low_front (34 ∷ []) (chars ++ 34 ∷ []) rest mark, (encode_utf8_all chars, spelled layout t text, bytes))
