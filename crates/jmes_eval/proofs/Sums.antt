-- Sums of decimals, as the decimals of their exact values.
use Rattle.std.proofs.Common.{◌≡◌, ℕ, zero, suc, ◌+◌, ◌*◌, ◌^◌, ◌<◌, Bool, true, false, ◌&&◌, nat_lt, ℤ, pos, negsuc, ◌+ℤ◌, None, Some, List, [], ◌∷◌, inl, inr, refl, sym, ap, ◌∙◌, arith}
use Rattle.std.specs.Prelude.{fold}
use Rattle.std.proofs.lemmas.Bool.{cases_lt, lt-ltb}
use Rattle.std.proofs.Math.Nat.{mul-pos}
use Rattle.std.proofs.lemmas.Int.{ints}
use Rattle.std.proofs.lemmas.Nat.{pow-add}
use Rattle.json_doc.specs.declared.decimal.Decimal.{Decimal}
use Rattle.json_doc.specs.DecimalValue.{signed, numerator, IsSum}
use Rattle.json_doc.specs.Exact.{exact, HasValue}
use Rattle.json_doc.proofs.LeastForms.{ten-pos}
use Rattle.json_doc.proofs.Decimals.{sign_of_some, sign_of_none}
use Rattle.json_doc.proofs.Signed.{signed-size, sum-scale}
use Rattle.jmes_eval.specs.Fractions.{decimal_of}
use Rattle.jmes_eval.specs.Numbers.{over, sum_of_two, added}
use Rattle.jmes_eval.proofs.DecimalOf.{decimal_is, decimal_is_none}

over-signed : (n : Bool) (m p : ℕ) → over (signed n m) p ≡ exact (n && nat_lt 0 m) m 0 p
over-signed false m p = refl
over-signed true zero p = refl
over-signed true (suc k) p = ap (λ b. exact b (suc k) 0 p) (sym (lt-ltb 0 (suc k) (omega arith)))

signed_of : (z : ℤ) → (n : Bool) × (m : ℕ) × (z ≡ signed n m)
signed_of (pos m) = (false, m, refl)
signed_of (negsuc k) = (true, suc k, refl)

signed-sign : (n n' : Bool) (x y : ℕ) → 0 < x → signed n x ≡ signed n' y → n ≡ n'
signed-sign true true x y some e = refl
signed-sign false false x y some e = refl
signed-sign true false x y some e = absurd (omega (arith, ints))
signed-sign false true x y some e = absurd (omega (arith, ints))

signed-none : (n n' : Bool) (x y : ℕ) → x ≡ 0 → y ≡ 0 → signed n x ≡ signed n' y
signed-none true true x y e f = omega (arith, ints)
signed-none true false x y e f = omega (arith, ints)
signed-none false true x y e f = omega (arith, ints)
signed-none false false x y e f = omega (arith, ints)

self_and : (b : Bool) → (b && b) ≡ b
self_and true = refl
self_and false = refl

twice : (n : Bool) (m : ℕ) → ((n && nat_lt 0 m) && nat_lt 0 m) ≡ (n && nat_lt 0 m)
twice true m = self_and (nat_lt 0 m)
twice false m = refl

not_true : (b : Bool) → (b ≡ true → ⊥) → b ≡ false
not_true true never = absurd (never refl)
not_true false never = refl

unsigned : (d : Decimal) → d.magnitude ≡ 0 → d.is_negative ≡ false
unsigned d none = not_true d.is_negative (λ e. let some = d.one_zero e in absurd (omega arith))

no_factor : (m k : ℕ) → m * k ≡ 0 → 0 < k → m ≡ 0
no_factor m k e some = elim (cases_lt 0 m) [
  | inl above ↦ let much = mul-pos above some in absurd (omega (arith, much))
  | inr none ↦ omega arith
]

module _ (a b s : Decimal) (n : Bool) (m : ℕ) (is : numerator a b.scale +ℤ numerator b a.scale ≡ signed n m) where
  abbrev p : ℕ
  p = a.scale + b.scale

  -- the sum over the denominator of all three
  abbrev HasForm : Type 0
  HasForm = signed n (m * 10 ^ s.scale) ≡ signed s.is_negative (s.magnitude * 10 ^ p)

  scaled : signed n (m * 10 ^ s.scale) ≡ numerator a (b.scale + s.scale) +ℤ numerator b (a.scale + s.scale)
  scaled =
      let e = sum-scale n a.is_negative b.is_negative m (a.magnitude * 10 ^ b.scale) (b.magnitude * 10 ^ a.scale) (10 ^ s.scale) (sym is) in
      let a_power = ap (λ k. a.magnitude * k) (pow-add 10 b.scale s.scale) in
      let b_power = ap (λ k. b.magnitude * k) (pow-add 10 a.scale s.scale) in
      let f : a.magnitude * 10 ^ b.scale * 10 ^ s.scale ≡ a.magnitude * 10 ^ (b.scale + s.scale) = omega (arith, a_power) in
      let g : b.magnitude * 10 ^ a.scale * 10 ^ s.scale ≡ b.magnitude * 10 ^ (a.scale + s.scale) = omega (arith, b_power) in
      e ∙ ap (λ x. signed a.is_negative x +ℤ signed b.is_negative (b.magnitude * 10 ^ a.scale * 10 ^ s.scale)) f ∙ ap (λ y. signed a.is_negative (a.magnitude * 10 ^ (b.scale + s.scale)) +ℤ signed b.is_negative y) g

  shown : m * 10 ^ (0 + s.scale) ≡ m * 10 ^ s.scale
  shown = ap (λ k. m * 10 ^ k) (let e : 0 + s.scale ≡ s.scale = omega arith in e)

  pub value_of_form : HasForm → HasValue s (exact (n && nat_lt 0 m) m 0 p)
  value_of_form form =
      let size = signed-size n s.is_negative (m * 10 ^ s.scale) (s.magnitude * 10 ^ p) form in
      record {
        size = sym size ∙ sym shown;
        sign = elim (cases_lt 0 m) [
          | inl some ↦ sym (signed-sign n s.is_negative (m * 10 ^ s.scale) (s.magnitude * 10 ^ p) (mul-pos some (ten-pos s.scale)) form) ∙ sym (sign_of_some n m some) ∙ sym (twice n m)
          | inr none ↦
              let zero_m : m ≡ 0 = omega arith in
              let nothing = ap (λ k. k * 10 ^ s.scale) zero_m in
              let size_none = no_factor s.magnitude (10 ^ p) (sym size ∙ nothing ∙ omega arith) (ten-pos p) in
              unsigned s size_none ∙ sym (sign_of_none (n && nat_lt 0 m) m zero_m)
        ];
      }

  pub form_of_value : HasValue s (exact (n && nat_lt 0 m) m 0 p) → HasForm
  form_of_value h = elim (cases_lt 0 m) [
    | inl some ↦
        let same : n ≡ s.is_negative = sym (sign_of_some n m some) ∙ sym (twice n m) ∙ sym h.sign in
        ap (signed n) (sym shown ∙ sym h.size) ∙ ap (λ b. signed b (s.magnitude * 10 ^ p)) same
    | inr none ↦
        let zero_m : m ≡ 0 = omega arith in
        let nothing = ap (λ k. k * 10 ^ s.scale) zero_m in
        let left : m * 10 ^ s.scale ≡ 0 = nothing ∙ omega arith in
        signed-none n s.is_negative (m * 10 ^ s.scale) (s.magnitude * 10 ^ p) left (h.size ∙ shown ∙ left)
  ]

  pub sum-some-of : IsSum a b s → HasValue s (exact (n && nat_lt 0 m) m 0 p)
  sum-some-of sum = value_of_form (scaled ∙ sum)

  pub sum-of-value : HasValue s (exact (n && nat_lt 0 m) m 0 p) → IsSum a b s
  sum-of-value h = sym scaled ∙ form_of_value h

-- the exact value of a sum
over-sum : (a b : Decimal) (n : Bool) (m : ℕ) → numerator a b.scale +ℤ numerator b a.scale ≡ signed n m → over (numerator a b.scale +ℤ numerator b a.scale) (a.scale + b.scale) ≡ exact (n && nat_lt 0 m) m 0 (a.scale + b.scale)
over-sum a b n m is = ap (λ z. over z (a.scale + b.scale)) is ∙ over-signed n m (a.scale + b.scale)

pub sum-some : (a b s : Decimal) → IsSum a b s → sum_of_two a b ≡ Some s
sum-some a b s sum =
    let z = signed_of (numerator a b.scale +ℤ numerator b a.scale) in
    ap decimal_of (over-sum a b z.0 z.1 z.2) ∙ decimal_is (exact (z.0 && nat_lt 0 z.1) z.1 0 (a.scale + b.scale)) s (sum-some-of a b s z.0 z.1 z.2 sum)

pub sum-none : (a b : Decimal) → ((s : Decimal) → IsSum a b s → ⊥) → sum_of_two a b ≡ None
sum-none a b none =
    let z = signed_of (numerator a b.scale +ℤ numerator b a.scale) in
    ap decimal_of (over-sum a b z.0 z.1 z.2) ∙ decimal_is_none (exact (z.0 && nat_lt 0 z.1) z.1 0 (a.scale + b.scale)) (λ s h. none s (sum-of-value a b s z.0 z.1 z.2 h))

-- Totals.

pub total-none : (ns : List Decimal) → fold added None ns ≡ None
total-none [] = refl
total-none (n ∷ ns) = total-none ns
