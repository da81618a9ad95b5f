-- The decimal of an exact value is any decimal that has the value, and there is none where none has.
use Rattle.std.proofs.Common.{◌≡◌, ℕ, zero, suc, ◌+◌, ◌*◌, ◌/◌, ◌%◌, ◌^◌, ◌==◌, ◌<◌, ◌≤◌, Bool, true, false, ◌&&◌, not, nat_lt, Option, None, Some, inl, inr, refl, sym, ap, ◌∙◌, arith}
use Rattle.std.specs.Prelude.{is_some}
use Rattle.std.specs.Option.{option_or, option_map_or}
use Rattle.std.proofs.Math.Nat.{mul-div_left, mul-pos}
use Rattle.std.proofs.lemmas.Bool.{cases_lt, cases_eq, lt-ltb, ltb-true, le-leb, false≢true, eq-eqb, eqb-true}
use Rattle.json_doc.specs.declared.decimal.Decimal.{Decimal}
use Rattle.json_doc.specs.Exact.{Exact, HasValue, HasNoDecimal}
use Rattle.json_doc.specs.Least.{IsLeast}
use Rattle.json_doc.proofs.LeastForms.{ten-pos}
use Rattle.json_doc.proofs.Decimals.{one_decimal}
use Rattle.jmes_eval.specs.Fractions.{both_hold, is_least, is_form, formed, units, is_whole_at, at_test, at_places, first_at, decimal_of}

-- What is formed.

size_in : Option Decimal → ℕ
size_in o = option_map_or (λ d. d.magnitude) o 0

abbrev IsFormed : Bool → ℕ → ℕ → Decimal → Type 0
IsFormed sign q p d = (d.is_negative ≡ (sign && nat_lt 0 q)) × (d.magnitude ≡ q) × (d.scale ≡ p)

formed-some : (sign : Bool) (q p : ℕ) (test : Bool) (e : is_form q p ≡ test) (d : Decimal) → formed sign q p test e ≡ Some d → IsFormed sign q p d
formed-some sign q p false e d is = absurd cc
formed-some sign q p true e d is =
    let sign_is = ap (λ o. option_map_or (λ (c : Decimal). c.is_negative) o false) is in
    let size_is = ap (λ o. option_map_or (λ (c : Decimal). c.magnitude) o 0) is in
    let scale_is = ap (λ o. option_map_or (λ (c : Decimal). c.scale) o 0) is in
    (sym sign_is, sym size_is, sym scale_is)

formed-is_some : (sign : Bool) (q p : ℕ) (test : Bool) (e : is_form q p ≡ test) → test ≡ true → is_some (formed sign q p test e) ≡ true
formed-is_some sign q p true e holds = refl
formed-is_some sign q p false e holds = absurd (false≢true holds)

-- What is found at a number of places.

some_of_product : (a b k j : ℕ) → a * k ≡ b * j → 0 < k → 0 < a → 0 < b
some_of_product a b k j e pos some = elim (cases_lt 0 b) [
  | inl above ↦ above
  | inr none ↦
      let zero_b : b ≡ 0 = omega arith in
      let nothing = ap (λ t. t * j) zero_b in
      let much = mul-pos some pos in
      absurd (omega (arith, nothing, much, e))
]

same_test : (a b : ℕ) → (0 < a → 0 < b) → (0 < b → 0 < a) → nat_lt 0 a ≡ nat_lt 0 b
same_test a b to from = elim (cases_lt 0 a) [
  | inl some ↦ lt-ltb 0 a some ∙ sym (lt-ltb 0 b (to some))
  | inr none ↦ elim (cases_lt 0 b) [
    | inl some ↦ let some_a = from some in absurd (omega arith)
    | inr none_b ↦ let e : a ≡ 0 = omega arith in let f : b ≡ 0 = omega arith in ap (λ n. nat_lt 0 n) (e ∙ sym f)
  ]
]

same_sign : (x : Exact) (p : ℕ) → units x p * 10 ^ x.down ≡ x.digits * 10 ^ (x.up + p) → nat_lt 0 (units x p) ≡ nat_lt 0 x.digits
same_sign x p exact = same_test (units x p) x.digits
    (some_of_product (units x p) x.digits (10 ^ x.down) (10 ^ (x.up + p)) exact (ten-pos x.down))
    (some_of_product x.digits (units x p) (10 ^ (x.up + p)) (10 ^ x.down) (sym exact) (ten-pos (x.up + p)))

value_from : (x : Exact) (p : ℕ) (d : Decimal) → is_whole_at x p ≡ true → IsFormed x.is_negative (units x p) p d → HasValue d x
value_from x p d whole is =
    let exact = eqb-true (units x p * 10 ^ x.down) (x.digits * 10 ^ (x.up + p)) whole in
    let size : d.magnitude * 10 ^ x.down ≡ x.digits * 10 ^ (x.up + d.scale) = ap (λ k. k * 10 ^ x.down) is.1 ∙ exact ∙ ap (λ k. x.digits * 10 ^ (x.up + k)) (sym is.2) in
    record { size = size; sign = is.0 ∙ ap (λ b. x.is_negative && b) (same_sign x p exact) }

test-some : (x : Exact) (p : ℕ) (test : Bool) → is_whole_at x p ≡ test → (d : Decimal) → at_test x p test ≡ Some d → HasValue d x
test-some x p false e d is = absurd cc
test-some x p true e d is = value_from x p d e (formed-some x.is_negative (units x p) p (is_form (units x p) p) refl d is)

at_places-some : (x : Exact) (p : ℕ) (d : Decimal) → at_places x p ≡ Some d → HasValue d x
unfolding at_places
at_places-some x p d is = test-some x p (is_whole_at x p) refl d is

units-of : (x : Exact) (d : Decimal) → HasValue d x → units x d.scale ≡ d.magnitude
units-of x d h = ap (λ k. k / 10 ^ x.down) (sym h.size) ∙ mul-div_left d.magnitude (ten-pos x.down)

not_both : (a b : Bool) → (a ≡ true → b ≡ true → ⊥) → not (a && b) ≡ true
not_both true true never = absurd (never refl refl)
not_both true false never = refl
not_both false true never = refl
not_both false false never = refl

is_least-of : (q p : ℕ) → IsLeast q p → is_least q p ≡ true
is_least-of q p least = not_both (nat_lt 0 p) (q % 10 == 0) (λ some ends. least (ltb-true 0 p some) (eqb-true (q % 10) 0 ends))

is_form-of : (d : Decimal) → is_form d.magnitude d.scale ≡ true
is_form-of d = both_hold _ _ (lt-ltb d.magnitude (10 ^ 36) d.small) (both_hold _ _ (le-leb d.scale 30 d.short) (is_least-of d.magnitude d.scale d.least))

at_places-whole : (x : Exact) (d : Decimal) → HasValue d x → is_some (at_places x d.scale) ≡ true
unfolding at_places
at_places-whole x d h =
    let u = units-of x d h in
    let whole : is_whole_at x d.scale ≡ true = eq-eqb _ _ (ap (λ k. k * 10 ^ x.down) u ∙ h.size) in
    let form : is_form (units x d.scale) d.scale ≡ true = ap (λ q. is_form q d.scale) u ∙ is_form-of d in
    ap (λ test. is_some (at_test x d.scale test)) whole ∙ formed-is_some x.is_negative (units x d.scale) d.scale (is_form (units x d.scale) d.scale) refl form

-- What is found first.

first-step : (x : Exact) (d : Decimal) (n p : ℕ) (o rest : Option Decimal) → at_places x p ≡ o → HasValue d x → (at_places x p ≡ None → rest ≡ Some d) → option_or o rest ≡ Some d
first-step x d n p None rest e h more = more e
first-step x d n p (Some c) rest e h more = ap Some (one_decimal c d x (at_places-some x p c e) h)

first-is : (x : Exact) (d : Decimal) → HasValue d x → (n p : ℕ) → n + p ≡ 31 → p ≤ d.scale → first_at x n p ≡ Some d
unfolding first_at
first-is x d h zero p count below = let short = d.short in absurd (omega arith)
first-is x d h (suc n) p count below =
    first-step x d n p (at_places x p) (first_at x n (suc p)) refl h
    (λ none. elim (cases_eq p d.scale) [
      | inl same ↦ absurd (false≢true (sym (ap is_some none) ∙ ap (λ k. is_some (at_places x k)) same ∙ at_places-whole x d h))
      | inr other ↦ first-is x d h n (suc p) (omega arith) (omega arith)
    ])

pub decimal_is : (x : Exact) (d : Decimal) → HasValue d x → decimal_of x ≡ Some d
unfolding decimal_of
decimal_is x d h = first-is x d h 31 0 refl (omega arith)

none-step : (x : Exact) (p : ℕ) (o rest : Option Decimal) → at_places x p ≡ o → HasNoDecimal x → rest ≡ None → option_or o rest ≡ None
none-step x p None rest e none more = more
none-step x p (Some c) rest e none more = absurd (none c (at_places-some x p c e))

first-none : (x : Exact) → HasNoDecimal x → (n p : ℕ) → first_at x n p ≡ None
unfolding first_at
first-none x none zero p = refl
first-none x none (suc n) p = none-step x p (at_places x p) (first_at x n (suc p)) refl none (first-none x none n (suc p))

pub decimal_is_none : (x : Exact) → HasNoDecimal x → decimal_of x ≡ None
unfolding decimal_of
decimal_is_none x none = first-none x none 31 0
