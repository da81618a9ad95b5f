-- Decimals that were written, as the grammar spells their numbers.
use Rattle.std.proofs.Common.{◌≡◌, ℕ, zero, suc, ◌+◌, ◌-◌, ◌*◌, ◌/◌, ◌%◌, ◌^◌, ◌<◌, ◌==◌, Bool, true, false, ◌&&◌, nat_lt, if◌then◌else◌, inl, inr, List, [], ◌∷◌, ◌++◌, length, replicate, get_or, refl, sym, ap, ◌∙◌, subst, arith, append-nil, length-append}
use Rattle.std.specs.Char.{digit_value}
use Rattle.std.specs.Fmt.{decimal}
use Rattle.std.specs.Str.Parse.{digits_value, digits_value_after, AllDigits}
use Rattle.std.proofs.Math.Nat.{pow-suc, add-mul, div-le_self, mod-lt, mod-le}
use Rattle.std.proofs.lemmas.Bool.{cases_lt, eqb-true, eqb-false, lt-ltb}
use Rattle.std.proofs.lemmas.Fmt.{decimal_digit, decimal_by_steps_wide, decimal_is_IsNumeral_wide, length-decimal-le_wide}
use Rattle.std.proofs.lemmas.List.{get_or_append_left, length-replicate}
use Rattle.std.proofs.lemmas.Nat.{div-add-mod'}
use Rattle.std.proofs.lemmas.Str.Parse.{digit_from_value}
use Rattle.json_doc.specs.declared.decimal.Decimal.{Decimal}
use Rattle.json_doc.specs.DecimalText.{sign_text, zero_filled, places_text, decimal_text}
use Rattle.json_doc.specs.Exact.{HasValue}
use Rattle.json_doc.specs.NumberToken.{Number, IsInt, SpellsFrac, no_frac, with_frac, no_exp, SpellsNumber, no_exponent, value_of}
use Rattle.json_doc.proofs.DigitLists.{after-append}
use Rattle.json_doc.proofs.LeastForms.{ten-pos}
use Rattle.json_doc.proofs.TextsWritten.{IsLow, IsLow-append}

-- Digits one after another.

digits_append : (xs ys : List ℕ) → AllDigits 10 xs → AllDigits 10 ys → AllDigits 10 (xs ++ ys)
digits_append [] ys all all' = all'
digits_append (x ∷ xs) ys all all' = (all.0, digits_append xs ys all.1 all')

-- digits in front count by the places behind them
value_behind : (n : ℕ) (ds : List ℕ) → digits_value_after 10 n ds ≡ n * 10 ^ length ds + digits_value 10 ds
value_behind n [] = omega arith
value_behind n (d ∷ ds) =
    let v : ℕ = digit_value d in
    let front = value_behind (n * 10 + v) ds in
    let alone = value_behind (0 * 10 + v) ds in
    let power : n * 10 ^ suc (length ds) ≡ n * 10 * 10 ^ length ds = ap (λ p. n * p) (pow-suc 10 (length ds)) ∙ turned n (10 ^ length ds) in
    let parts : (n * 10 + v) * 10 ^ length ds ≡ n * 10 * 10 ^ length ds + v * 10 ^ length ds = add-mul (n * 10) v (10 ^ length ds) in
    omega (arith, front, alone, power, parts)
  where
    turned : (a p : ℕ) → a * (p * 10) ≡ a * 10 * p
    turned a p = omega arith

-- a whole part and the digits behind the point
pub value_both : (w : ℕ) (int frac : List ℕ) → digits_value 10 int ≡ w → digits_value 10 (int ++ frac) ≡ w * 10 ^ length frac + digits_value 10 frac
value_both w int frac is = after-append 0 int frac ∙ ap (λ n. digits_value_after 10 n frac) is ∙ value_behind w frac

-- zeros in front change no value
value_filled : (k : ℕ) (ds : List ℕ) → digits_value 10 (replicate k 48 ++ ds) ≡ digits_value 10 ds
value_filled zero ds = refl
value_filled (suc k) ds = value_filled k ds

zeros_digits : (k : ℕ) → AllDigits 10 (replicate k 48)
zeros_digits zero = tt
zeros_digits (suc k) = (omega arith, zeros_digits k)

digits_low : (ds : List ℕ) → AllDigits 10 ds → IsLow ds
digits_low [] all = tt
digits_low (d ∷ ds) all = let range = digit_from_value d all.0 in (omega arith, digits_low ds all.1)

-- The whole part.

first_digit : (n : ℕ) → 0 < n → n < 10 ^ 64 → 48 < get_or (decimal n) 0 0
first_digit n some small =
    (decimal_by_steps_wide (λ m ds. (0 < length ds) × (0 < m → 48 < get_or ds 0 0)) (λ m l. (omega arith, λ a. omega arith))
    (λ m ds l h. (omega (arith, length-append ds ((48 + m % 10) ∷ [])), λ a. omega (arith, get_or_append_left ds ((48 + m % 10) ∷ []) 0 0 h.0, h.1 (omega arith)))) n small).1 some

decimal-IsInt : (n : ℕ) → n < 10 ^ 64 → IsInt (decimal n)
decimal-IsInt n small = (
  (decimal_is_IsNumeral_wide n small).0,
  λ zero_first. elim (cases_lt 0 n) [
    | inl some ↦ let more = first_digit n some small in absurd (omega (arith, zero_first))
    | inr none ↦ let same : n ≡ 0 = omega arith in ap decimal same ∙ decimal_digit 0 (omega arith)
  ],
)

-- The places.

-- the digits behind the point
abbrev pub frac_digits : ℕ → ℕ → List ℕ
frac_digits count part = if count == 0 then [] else zero_filled count (decimal part)

module _ (count part : ℕ) (some : 0 < count) (small : part < 10 ^ count) (fits : part < 10 ^ 64) where
  filled_digits : AllDigits 10 (zero_filled count (decimal part))
  filled_digits = digits_append (replicate (count - length (decimal part)) 48) (decimal part) (zeros_digits _) (decimal_is_IsNumeral_wide part fits).0.1

  abbrev zero_byte : ℕ
  zero_byte = 48

  length-filled : length (zero_filled count (decimal part)) ≡ count
  length-filled =
      let short = length-decimal-le_wide count part some small fits in
      omega (arith, length-append (replicate (count - length (decimal part)) 48) (decimal part), length-replicate (count - length (decimal part)) zero_byte)

  value-filled : digits_value 10 (zero_filled count (decimal part)) ≡ part
  value-filled = value_filled (count - length (decimal part)) (decimal part) ∙ (decimal_is_IsNumeral_wide part fits).1

-- the digits and the text of a fraction with this many places and this value
record ArePlaces (ds text : List ℕ) (count part : ℕ) : Type 0 where
  spells : SpellsFrac ds text
  long : length ds ≡ count
  value : digits_value 10 ds ≡ part
  low : IsLow text

no_places : (count part : ℕ) → count ≡ 0 → part < 10 ^ count → ArePlaces [] [] count part
no_places count part none small =
    let one : part < 10 ^ 0 = subst (λ k. part < 10 ^ k) none small in
    record { spells = no_frac refl refl; long = sym none; value = omega arith; low = tt }

some_places : (count part : ℕ) → 0 < count → part < 10 ^ count → part < 10 ^ 64 → ArePlaces (zero_filled count (decimal part)) (46 ∷ zero_filled count (decimal part)) count part
some_places count part some small fits =
    let all = filled_digits count part some small fits in
    let long = length-filled count part some small fits in
    record { spells = with_frac (omega (arith, long), all) refl; long = long; value = value-filled count part some small fits; low = (omega arith, digits_low _ all) }

places : (count part : ℕ) → part < 10 ^ count → part < 10 ^ 64 → ArePlaces (frac_digits count part) (places_text count part) count part
places count part small fits =
    elim (count == 0) as (λ b. (count == 0) ≡ b → ArePlaces (if b then [] else zero_filled count (decimal part)) (if b then [] else 46 ∷ zero_filled count (decimal part)) count part) [
      | true ↦ (λ e. no_places count part (eqb-true count 0 e) small)
      | false ↦ (λ e. let other = eqb-false count 0 e in some_places count part (omega arith) small fits)
    ] refl

-- The number.

sign_kept : (is_negative : Bool) (v m : ℕ) → (is_negative ≡ true → 0 < m) → v ≡ m → is_negative ≡ (is_negative && nat_lt 0 v)
sign_kept true v m some is = sym (lt-ltb 0 v (omega (arith, some refl)))
sign_kept false v m some is = refl

sign_low : (is_negative : Bool) → IsLow (sign_text is_negative)
sign_low true = (omega arith, tt)
sign_low false = tt

module _ (n : Decimal) where
  abbrev whole : ℕ
  whole = n.magnitude / 10 ^ n.scale

  abbrev part : ℕ
  part = n.magnitude % 10 ^ n.scale

  -- the parts of its text
  abbrev pub parts_of : Number
  parts_of = record { is_negative = n.is_negative; int = decimal whole; frac = frac_digits n.scale part; exp = no_exponent }

  whole_fits : whole < 10 ^ 64
  whole_fits = let small = n.small in let le = div-le_self n.magnitude (10 ^ n.scale) in omega arith

  part_small : part < 10 ^ n.scale
  part_small = mod-lt n.magnitude (ten-pos n.scale)

  part_fits : part < 10 ^ 64
  part_fits = let small = n.small in let le = mod-le n.magnitude (10 ^ n.scale) in omega arith

  digits_value-parts : digits_value 10 (decimal whole ++ frac_digits n.scale part) ≡ n.magnitude
  digits_value-parts =
      let p = places n.scale part part_small part_fits in
      value_both whole (decimal whole) (frac_digits n.scale part) (decimal_is_IsNumeral_wide whole whole_fits).1
      ∙ ap (λ k. whole * 10 ^ k + digits_value 10 (frac_digits n.scale part)) p.long ∙ ap (λ v. whole * 10 ^ n.scale + v) p.value ∙ div-add-mod' n.magnitude (10 ^ n.scale)

  pub decimal_text-spells : SpellsNumber parts_of (decimal_text n)
  decimal_text-spells =
      let p = places n.scale part part_small part_fits in
      record {
        frac = places_text n.scale part;
        exp = [];
        is_int = decimal-IsInt whole whole_fits;
        is_frac = p.spells;
        is_exp = no_exp refl refl refl;
        whole = sym (append-nil (decimal_text n));
      }

  pub decimal_text-value : HasValue n (value_of parts_of)
  decimal_text-value =
      let p = places n.scale part part_small part_fits in
      let v = digits_value-parts in
      record {
        size = ap (λ k. n.magnitude * 10 ^ k) (let same : length (frac_digits n.scale part) + 0 ≡ 0 + n.scale = omega (arith, p.long) in same) ∙ ap (λ d. d * 10 ^ (0 + n.scale)) (sym v);
        sign = sign_kept n.is_negative _ n.magnitude n.one_zero v;
      }

  pub decimal_text-IsLow : IsLow (decimal_text n)
  decimal_text-IsLow =
      IsLow-append (sign_text n.is_negative ++ decimal whole) (places_text n.scale part)
      (IsLow-append (sign_text n.is_negative) (decimal whole) (sign_low n.is_negative) (digits_low (decimal whole) (decimal_is_IsNumeral_wide whole whole_fits).0.1))
      (places n.scale part part_small part_fits).low
