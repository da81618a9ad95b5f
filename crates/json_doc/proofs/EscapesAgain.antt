-- Characters behind a backslash: what is spelled is read.
use Rattle.std.proofs.Common.{◌≡◌, ℕ, ◌+◌, ◌*◌, ◌<◌, ◌≤◌, ◌==◌, true, false, cond, ◌⊎◌, inl, inr, ⊎_elim, List, [], ◌∷◌, ◌++◌, Some, None, Ok, refl, ap, arith}
use Rattle.std.specs.Char.{IsScalar, digit_value}
use Rattle.std.specs.Char.Utf16.{is_high_surrogate, is_low_surrogate, surrogate_pair_char}
use Rattle.std.specs.Str.Parse.{digits_value}
use Rattle.std.proofs.Math.Utf8.{scalar_cases}
use Rattle.std.proofs.lemmas.Bool.{and_parts, and_left, and_right, ltb-true, leb-true, lt-leb, le-ltb, cases_eq, eq-eqb, ne_eqb}
use Rattle.json_doc.specs.TextToken.{low_half_at, unit_at, unicode_at, named_char, escape_at, IsUnit}
use Rattle.json_doc.proofs.TokenParts.{byte_in_from, hex_in_from}
use Rattle.json_doc.proofs.Escapes.{high_half}

second_digit : (a b c d u : ℕ) → ((a * 16 + b) * 16 + c) * 16 + d ≡ u → b ≤ 15 → c ≤ 15 → d ≤ 15 → (u < 0xDC00) ⊎ (0xE000 ≤ u) → b ≤ cond (a == 13) 11 15
second_digit a b c d u is hb hc hd range = elim (cases_eq a 13) [
  | inl e ↦ rw (eq-eqb a 13 e) (⊎_elim (λ h. omega arith) (λ h. omega arith) range)
  | inr other ↦ rw (ne_eqb a 13 other) hb
]

unit_at_four : (a b c d u : ℕ) (rest : List ℕ) → digit_value a < 16 → digit_value b < 16 → digit_value c < 16 → digit_value d < 16 → u ≡ digits_value 16 (a ∷ b ∷ c ∷ d ∷ []) → (u < 0xDC00) ⊎ (0xE000 ≤ u)
    → unit_at (a ∷ b ∷ c ∷ d ∷ rest) ≡ Ok (u, rest)
unfolding unit_at
unit_at_four a b c d u rest ha hb hc hd is range =
    let same : ((digit_value a * 16 + digit_value b) * 16 + digit_value c) * 16 + digit_value d ≡ u = omega arith in
    let second = second_digit (digit_value a) (digit_value b) (digit_value c) (digit_value d) u same (omega arith) (omega arith) (omega arith) range in
    rw (
      hex_in_from 0 15 a (b ∷ c ∷ d ∷ rest) (omega arith) (omega arith),
      hex_in_from 0 (cond (digit_value a == 13) 11 15) b (c ∷ d ∷ rest) (omega arith) second,
      hex_in_from 0 15 c (d ∷ rest) (omega arith) (omega arith),
      hex_in_from 0 15 d rest (omega arith) (omega arith),
      same,
    ) refl

unit_at_from : (ds : List ℕ) (u : ℕ) (rest : List ℕ) → IsUnit ds u → (u < 0xDC00) ⊎ (0xE000 ≤ u) → unit_at (ds ++ rest) ≡ Ok (u, rest)
unit_at_from [] u rest is range = absurd (omega arith)
unit_at_from (a ∷ []) u rest is range = absurd (omega arith)
unit_at_from (a ∷ b ∷ []) u rest is range = absurd (omega arith)
unit_at_from (a ∷ b ∷ c ∷ []) u rest is range = absurd (omega arith)
unit_at_from (a ∷ b ∷ c ∷ d ∷ []) u rest is range = unit_at_four a b c d u rest is.1.0 is.1.1.0 is.1.1.1.0 is.1.1.1.1.0 is.2 range
unit_at_from (a ∷ b ∷ c ∷ d ∷ e ∷ ds) u rest is range = absurd (omega arith)

low_half_four : (high a b c d v : ℕ) (rest : List ℕ) → digit_value a < 16 → digit_value b < 16 → digit_value c < 16 → digit_value d < 16 → v ≡ digits_value 16 (a ∷ b ∷ c ∷ d ∷ []) → 0xDC00 ≤ v → v < 0xE000
    → low_half_at high (0x5C ∷ 0x75 ∷ a ∷ b ∷ c ∷ d ∷ rest) ≡ Ok (surrogate_pair_char high v, rest)
unfolding low_half_at
low_half_four high a b c d v rest ha hb hc hd is low up =
    let same : ((digit_value a * 16 + digit_value b) * 16 + digit_value c) * 16 + digit_value d ≡ v = omega arith in
    rw (
      byte_in_from 0x5C 0x5C 0x5C (0x75 ∷ a ∷ b ∷ c ∷ d ∷ rest) (omega arith) (omega arith),
      byte_in_from 0x75 0x75 0x75 (a ∷ b ∷ c ∷ d ∷ rest) (omega arith) (omega arith),
      hex_in_from 13 13 a (b ∷ c ∷ d ∷ rest) (omega arith) (omega arith),
      hex_in_from 12 15 b (c ∷ d ∷ rest) (omega arith) (omega arith),
      hex_in_from 0 15 c (d ∷ rest) (omega arith) (omega arith),
      hex_in_from 0 15 d rest (omega arith) (omega arith),
      same,
    ) refl

low_half_from : (high : ℕ) (es : List ℕ) (v : ℕ) (rest : List ℕ) → IsUnit es v → 0xDC00 ≤ v → v < 0xE000 → low_half_at high (0x5C ∷ 0x75 ∷ es ++ rest) ≡ Ok (surrogate_pair_char high v, rest)
low_half_from high [] v rest is low up = absurd (omega arith)
low_half_from high (a ∷ []) v rest is low up = absurd (omega arith)
low_half_from high (a ∷ b ∷ []) v rest is low up = absurd (omega arith)
low_half_from high (a ∷ b ∷ c ∷ []) v rest is low up = absurd (omega arith)
low_half_from high (a ∷ b ∷ c ∷ d ∷ []) v rest is low up = low_half_four high a b c d v rest is.1.0 is.1.1.0 is.1.1.1.0 is.1.1.1.1.0 is.2 low up
low_half_from high (a ∷ b ∷ c ∷ d ∷ e ∷ es) v rest is low up = absurd (omega arith)

no_high_half : (c : ℕ) → IsScalar c → is_high_surrogate c ≡ false
no_high_half c is = ⊎_elim (λ h. and_left _ _ (lt-leb 0xD800 c h)) (λ h. and_right _ _ (le-ltb c 0xDC00 (omega arith))) (scalar_cases c is)

-- a code of four digits
pub escape_at-unit : (ds : List ℕ) (c : ℕ) (rest : List ℕ) → IsUnit ds c → IsScalar c → escape_at (0x75 ∷ ds ++ rest) ≡ Ok (c, rest)
unfolding escape_at unicode_at
escape_at-unit ds c rest is scalar =
    let range = ⊎_elim (λ h. let P : (c < 0xDC00) ⊎ (0xE000 ≤ c) = inl (omega arith) in P) (λ h. inr h.0) (scalar_cases c scalar) in
    rw (unit_at_from ds c rest is range, no_high_half c scalar) refl

-- two halves
pub escape_at-pair : (ds es : List ℕ) (u v : ℕ) (rest : List ℕ) → IsUnit ds u → is_high_surrogate u ≡ true → IsUnit es v → is_low_surrogate v ≡ true
    → escape_at (0x75 ∷ ds ++ (0x5C ∷ 0x75 ∷ es ++ rest)) ≡ Ok (surrogate_pair_char u v, rest)
unfolding escape_at unicode_at
escape_at-pair ds es u v rest is high is' low =
    let h = high_half u high in
    let l = and_parts _ _ low in
    rw (unit_at_from ds u (0x5C ∷ 0x75 ∷ es ++ rest) is (inl h.1), high, low_half_from u es v rest is' (leb-true 0xDC00 v l.0) (ltb-true v 0xE000 l.1)) refl

-- a letter
named_not_u : (letter c : ℕ) → named_char letter ≡ Some c → letter ≡ 0x75 → ⊥
named_not_u letter c is e =
    let none : named_char 0x75 ≡ None = refl in
    let same : named_char letter ≡ named_char 0x75 = ap named_char e in
    cc

pub escape_at-named : (letter c : ℕ) (rest : List ℕ) → named_char letter ≡ Some c → escape_at (letter ∷ rest) ≡ Ok (c, rest)
unfolding escape_at
escape_at-named letter c rest is = rw (ne_eqb letter 0x75 (named_not_u letter c is), is) refl
