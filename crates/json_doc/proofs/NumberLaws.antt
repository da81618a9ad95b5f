-- Reading a number as a decimal has one answer for any bytes.
use Rattle.std.proofs.Common.{◌≡◌, ◌≢◌, ℕ, ◌+◌, ◌-◌, ◌*◌, ◌%◌, ◌^◌, ◌<◌, ◌≤◌, Bool, false, ◌⊎◌, inl, inr, List, length, Ok, Err, MatchResult, refl, sym, ap, ◌∙◌, subst, arith}
use Rattle.std.proofs.Math.Nat.{mul-pos}
use Rattle.std.proofs.lemmas.Bool.{cases_lt}
use Rattle.json_doc.specs.declared.decimal.Decimal.{Decimal}
use Rattle.json_doc.specs.declared.stop.Stop.{Stop}
use Rattle.json_doc.specs.declared.stop.Stop.TheVariants.{NumberTooWide}
use Rattle.json_doc.specs.Exact.{Exact, HasValue, HasNoDecimal}
use Rattle.json_doc.specs.Reading.{Read}
use Rattle.json_doc.specs.NumberToken.{Number, value_of, number_at, BeginsWithNumber, ReadsNumber, read, too_wide, broken}
use Rattle.json_doc.proofs.TokenParts.{ok_same}
use Rattle.json_doc.proofs.LeastForms.{ten-pos, trimmed-pos, is_least}
use Rattle.json_doc.proofs.Decimals.{trims, value_of_form, value_of_zero, no_decimal, one_decimal}
use Rattle.json_doc.proofs.WholeNumbers.{number_at-begins, number_at-front}

-- Whether a value has a decimal.

zero_decimal : Decimal
zero_decimal = record {
  is_negative = false;
  magnitude = 0;
  scale = 0;
  small = omega arith;
  short = omega arith;
  least = λ some. absurd (omega arith);
  one_zero = λ e. cc;
}

decimal_of_form : (sign : Bool) (v up down : ℕ) → v % 10 ≢ 0 → v * 10 ^ (up - down) < 10 ^ 36 → down - up ≤ 30 → Decimal
decimal_of_form sign v up down trimmed small short = record {
  is_negative = sign;
  magnitude = v * 10 ^ (up - down);
  scale = down - up;
  small = small;
  short = short;
  least = (is_least (v * 10 ^ (up - down)) (down - up) v up down trimmed refl refl).0;
  one_zero = λ e. mul-pos (trimmed-pos v trimmed) (ten-pos (up - down));
}

has_or_not : (x : Exact) → ((d : Decimal) × HasValue d x) ⊎ HasNoDecimal x
unfolding zero_decimal decimal_of_form
has_or_not x = elim (cases_lt 0 x.digits) [
  | inr none ↦ inl (zero_decimal, value_of_zero zero_decimal x (omega arith) (record { sign = refl; size = refl; places = refl }))
  | inl some ↦
      let t = trims x.digits some in
      let up : ℕ = x.up + t.1 in
      elim (cases_lt (t.0 * 10 ^ (up - x.down)) (10 ^ 36)) [
        | inr long ↦ inr (no_decimal x t.0 t.1 t.2 (inl long))
        | inl small ↦ elim (cases_lt 30 (x.down - up)) [
          | inl deep ↦ inr (no_decimal x t.0 t.1 t.2 (inr deep))
          | inr short ↦
              let d : Decimal = decimal_of_form x.is_negative t.0 up x.down t.2.trimmed small short in
              inl (d, value_of_form d x t.0 t.1 t.2 (record { size = refl; places = refl }) refl)
        ]
      ]
]

-- Each input has an answer, and one alone.

answer_of : (bs : List ℕ) (o : Read Number) → number_at bs ≡ o → (p : Read Decimal) × ReadsNumber bs p
answer_of bs (Err stop) e = (Err stop, broken e)
answer_of bs (Ok x) e = elim (has_or_not (value_of x.0)) [
  | inl has ↦ (Ok (has.0, x.1), read e has.1)
  | inr none ↦ (Err (NumberTooWide (length bs)), too_wide e none)
]

pub number_total : (bs : List ℕ) → (p : Read Decimal) × ReadsNumber bs p
number_total bs = answer_of bs (number_at bs) refl

-- what an answer says of a number that is known
abbrev pub Says : List ℕ → Number → List ℕ → Read Decimal → Type 0
Says bs n rest o = MatchResult o (λ x. HasValue x.0 (value_of n) × (x.1 ≡ rest)) (λ stop. (stop ≡ NumberTooWide (length bs)) × HasNoDecimal (value_of n))

pub number_says : (bs : List ℕ) (n : Number) (rest : List ℕ) (o : Read Decimal) → number_at bs ≡ Ok (n, rest) → ReadsNumber bs o → Says bs n rest o
number_says bs n rest o e (read {rest = r} {n = m} {d} f value) =
    let same = ok_same (m, r) (n, rest) (sym f ∙ e) in
    (subst (λ x. HasValue d (value_of x.0)) same value, ap (λ x. x.1) same)
number_says bs n rest o e (too_wide {rest = r} {n = m} f none) =
    let same = ok_same (m, r) (n, rest) (sym f ∙ e) in
    (refl, subst (λ x. HasNoDecimal (value_of x.0)) same none)
number_says bs n rest o e (broken f) = cc

read_once : (bs : List ℕ) (n : Number) (rest : List ℕ) (d : Decimal) (p : Read Decimal) → HasValue d (value_of n) → Says bs n rest p → Ok (d, rest) ≡ p
read_once bs n rest d (Ok x) value says =
    let same = one_decimal d x.0 (value_of n) value says.0 in
    ap (λ e. Ok (e, rest)) same ∙ ap (λ r. Ok (x.0, r)) (sym says.1)
read_once bs n rest d (Err stop) value says = absurd (says.1 d value)

wide_once : (bs : List ℕ) (n : Number) (rest : List ℕ) (p : Read Decimal) → HasNoDecimal (value_of n) → Says bs n rest p → Err (NumberTooWide (length bs)) ≡ p
wide_once bs n rest (Ok x) none says = absurd (none x.0 says.0)
wide_once bs n rest (Err stop) none says = ap (λ s. Err s) (sym says.0)

broken_once : (bs : List ℕ) (stop : Stop) (p : Read Decimal) → number_at bs ≡ Err stop → ReadsNumber bs p → Err stop ≡ p
broken_once bs stop p e (read f value) = cc
broken_once bs stop p e (too_wide f none) = cc
broken_once bs stop p e (broken {stop = s} f) = let same : stop ≡ s = cc in ap (λ t. Err t) same

pub number_once : (bs : List ℕ) (o p : Read Decimal) → ReadsNumber bs o → ReadsNumber bs p → o ≡ p
number_once bs o p (read {rest} {n} {d} e value) other = read_once bs n rest d p value (number_says bs n rest p e other)
number_once bs o p (too_wide {rest} {n} e none) other = wide_once bs n rest p none (number_says bs n rest p e other)
number_once bs o p (broken {stop} e) other = broken_once bs stop p e other

-- An answer and the grammar.

pub number_spelled : (bs : List ℕ) (d : Decimal) (rest : List ℕ) → ReadsNumber bs (Ok (d, rest)) → (n : Number) × BeginsWithNumber bs n rest × HasValue d (value_of n)
number_spelled bs d rest (read {n} e value) = (n, number_at-begins bs n rest e, value)

pub number_only : (bs : List ℕ) (n : Number) (rest : List ℕ) (o : Read Decimal) → BeginsWithNumber bs n rest → ReadsNumber bs o → Says bs n rest o
number_only bs n rest o begins answer = number_says bs n rest o (number_at-front bs n rest begins) answer
