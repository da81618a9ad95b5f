-- Digits, by their bytes and by their characters.
use Rattle.std.proofs.Common.{◌≡◌, ◌<◌, ◌≤◌, ◌^◌, ℕ, leb, true, List, [], ◌∷◌, length, refl, sym, ap, ◌∙◌, arith, rules, Some, None}
use Rattle.std.specs.Prelude.{encode_utf8_all, ◌-◌, nat_lt, min}
use Rattle.std.specs.Char.{is_ascii_digit}
use Rattle.std.specs.List.{list_all}
use Rattle.std.specs.Str.{chars, IsUtf8}
use Rattle.std.specs.Str.Parse.{digits_value}
use Rattle.std.proofs.lemmas.Bool.{and_parts, leb-true, lt-ltb, ltb-true, cond-true, false≢true}
use Rattle.std.proofs.lemmas.Str.{encodes-chars, chars-nil}
use Rattle.std.proofs.Math.Nat.{lt_of_not-le}
use Rattle.std.proofs.lemmas.Str.Parse.{IsNumeralModel, numerals_by_value}
use Rattle.rule_terms.specs.Attributes.{index_of}
use Rattle.rule_terms.specs.Characters.{is_made_of}
use Rattle.texts.proofs.MarkedTexts.{encodes_cons}

-- the texts of digits are those that `parse` reads
pub numerals : IsNumeralModel (λ ds. list_all is_ascii_digit ds ≡ true) (digits_value 10)
numerals = numerals_by_value (λ ds. list_all is_ascii_digit ds ≡ true) (search rules)

-- digits are in ASCII
digit_low : (d : ℕ) → is_ascii_digit d ≡ true → nat_lt d 128 ≡ true
digit_low d is =
    let ends : (leb 48 d ≡ true) × (leb d 57 ≡ true) = and_parts (leb 48 d) (leb d 57) is in
    let low : d ≤ 57 = leb-true d 57 ends.1 in
    lt-ltb d 128 (omega arith)

made_all : (cs : List ℕ) → is_made_of is_ascii_digit cs ≡ true → list_all is_ascii_digit cs ≡ true
made_all [] made = refl
made_all (c ∷ cs) made = made

digits_encode : (ds : List ℕ) → list_all is_ascii_digit ds ≡ true → encode_utf8_all ds ≡ ds
digits_encode [] all = refl
digits_encode (d ∷ ds) all =
    let parts : (is_ascii_digit d ≡ true) × (list_all is_ascii_digit ds ≡ true) = and_parts (is_ascii_digit d) (list_all is_ascii_digit ds) all in
    encodes_cons d ds (ltb-true d 128 (digit_low d parts.0)) ∙ ap (λ e. d ∷ e) (digits_encode ds parts.1)

-- what is made of digits by its characters is made of digits by its bytes
pub made_bytes : (bs : List ℕ) → IsUtf8 bs → is_made_of is_ascii_digit (chars bs) ≡ true → (list_all is_ascii_digit bs ≡ true) × (chars bs ≡ bs)
made_bytes bs utf8 made =
    let all : list_all is_ascii_digit (chars bs) ≡ true = made_all (chars bs) made in
    let same : bs ≡ chars bs = sym (encodes-chars bs utf8) ∙ digits_encode (chars bs) all in
    (ap (list_all is_ascii_digit) same ∙ all, sym same)

pub index_some : (bs : List ℕ) (n : ℕ) → chars bs ≡ bs → is_made_of is_ascii_digit (chars bs) ≡ true → n ≡ min (digits_value 10 bs) (2 ^ 64 - 1) → Some n ≡ index_of (chars bs)
index_some bs n plain made same =
    ap Some (same ∙ ap (λ ds. min (digits_value 10 ds) (2 ^ 64 - 1)) (sym plain))
    ∙ sym (cond-true (is_made_of is_ascii_digit (chars bs)) (Some (min (digits_value 10 (chars bs)) (2 ^ 64 - 1))) None made)

pub not_empty : (bs : List ℕ) → chars bs ≡ bs → is_made_of is_ascii_digit (chars bs) ≡ true → 0 < length bs
not_empty [] plain made = absurd (false≢true (ap (is_made_of is_ascii_digit) (sym chars-nil) ∙ made))
not_empty (b ∷ bs) plain made = omega arith

pub not_below : (n : ℕ) → (n < 2 ^ 64 → ⊥) → 2 ^ 64 - 1 ≤ n
not_below n above =
    let most : 2 ^ 64 - 1 < n = lt_of_not-le (λ low. above (omega arith)) in
    omega arith
