-- A number's value and that of its significand with capped powers: a decimal has both or neither.
use Rattle.std.proofs.Common.{◌≡◌, ◌≢◌, ℕ, ◌+◌, ◌-◌, ◌*◌, ◌%◌, ◌^◌, ◌<◌, ◌≤◌, Bool, ◌⊎◌, inl, inr, Option, Some, None, IfSome, IfNone, sym, ap, ◌∙◌, arith}
use Rattle.std.proofs.Math.Nat.{le-mul_of_pos_right}
use Rattle.std.proofs.lemmas.Bool.{cases_eq}
use Rattle.json_doc.specs.declared.decimal.Decimal.{Decimal}
use Rattle.json_doc.specs.Exact.{Exact, exact, HasValue, HasNoDecimal, IsForm}
use Rattle.json_doc.specs.Trimmed.{IsLong, IsCapped}
use Rattle.json_doc.proofs.LeastForms.{ten-pos, many_places, trimmed-pos}
use Rattle.json_doc.proofs.Decimals.{Trims, Trims-none, form_of, value_of_form, Trims-pos, sign_of_some, zero_of, value_of_zero, no_decimal}

-- powers that are the same, or both too far up, or both too far down
abbrev pub Alike : ℕ → ℕ → ℕ → ℕ → Type 0
Alike up down up' down' = ((up ≡ up') × (down ≡ down')) ⊎ (((down + 36 ≤ up) × (down' + 36 ≤ up')) ⊎ ((up + 31 ≤ down) × (up' + 31 ≤ down')))

form_alike : (d : Decimal) (v up down up' down' : ℕ) → v % 10 ≢ 0 → Alike up down up' down' → IsForm d v up down → IsForm d v up' down'
form_alike d v up down up' down' trimmed (inl same) f = record {
  size = f.size ∙ ap (λ k. v * 10 ^ k) (let e : up - down ≡ up' - down' = omega arith in e);
  places = f.places ∙ (let e : down - up ≡ down' - up' = omega arith in e);
}
form_alike d v up down up' down' trimmed (inr (inl far)) f =
    let big = many_places v (up - down) (trimmed-pos v trimmed) (omega arith) in
    let small = d.small in
    absurd (omega (arith, f.size))
form_alike d v up down up' down' trimmed (inr (inr far)) f =
    let short = d.short in
    absurd (omega (arith, f.places))

Alike-swap : (up down up' down' : ℕ) → Alike up down up' down' → Alike up' down' up down
Alike-swap up down up' down' (inl same) = inl (sym same.0, sym same.1)
Alike-swap up down up' down' (inr (inl far)) = inr (inl (far.1, far.0))
Alike-swap up down up' down' (inr (inr far)) = inr (inr (far.1, far.0))

-- a significand: 0, or a front that doesn't end in zero
front_cases : (front ends : ℕ) → (front % 10 ≡ 0 → front + ends ≡ 0) → (front ≡ 0) ⊎ (front % 10 ≢ 0)
front_cases front ends trimmed = elim (cases_eq (front % 10) 0) [
  | inl e ↦ inl (let none = trimmed e in omega arith)
  | inr other ↦ inr other
]

module _ (d : Decimal) (sign : Bool) (n front ends up down up' down' : ℕ) (is : n ≡ front * 10 ^ ends) (trimmed : front % 10 ≡ 0 → front + ends ≡ 0) (alike : Alike (up' + 0) down' (up + ends) down) where
  pub value_to : HasValue d (exact sign front up' down') → HasValue d (exact sign n up down)
  value_to h = elim (front_cases front ends trimmed) [
    | inl none ↦
        let nothing : 0 * 10 ^ ends ≡ 0 = omega arith in
        value_of_zero d (exact sign n up down) (is ∙ ap (λ v. v * 10 ^ ends) none ∙ nothing) (zero_of d (exact sign front up' down') none h)
    | inr other ↦
        let f = form_of d (exact sign front up' down') front 0 (Trims-none front other) h in
        let g = form_alike d front (up' + 0) down' (up + ends) down other alike f in
        value_of_form d (exact sign n up down) front ends (record { trimmed = other; value = is }) g (h.sign ∙ sign_of_some sign front (trimmed-pos front other))
  ]

  pub value_from : HasValue d (exact sign n up down) → HasValue d (exact sign front up' down')
  value_from h = elim (front_cases front ends trimmed) [
    | inl none ↦
        let nothing : 0 * 10 ^ ends ≡ 0 = omega arith in
        value_of_zero d (exact sign front up' down') none (zero_of d (exact sign n up down) (is ∙ ap (λ v. v * 10 ^ ends) none ∙ nothing) h)
    | inr other ↦
        let f = form_of d (exact sign n up down) front ends (record { trimmed = other; value = is }) h in
        let g = form_alike d front (up + ends) down (up' + 0) down' other (Alike-swap (up' + 0) down' (up + ends) down alike) f in
        let some = Trims-pos n front ends (record { trimmed = other; value = is }) in
        value_of_form d (exact sign front up' down') front 0 (Trims-none front other) g (h.sign ∙ sign_of_some sign n some)
  ]

-- capped powers are like the powers, if one of them is none
pub capped_alike : (ends places up down up' down' : ℕ) → IsCapped up' up → IsCapped down' down → (up ≡ 0) ⊎ (down ≡ 0) → ends < 2 ^ 66 → places < 2 ^ 64 → Alike (ends + up' + 0) (places + down') (up + ends) (places + down)
capped_alike ends places up down up' down' (inl e) (inl f) one short few = inl (omega arith, omega arith)
capped_alike ends places up down up' down' (inr far) (inl f) (inl none) short few = absurd (omega arith)
capped_alike ends places up down up' down' (inr far) (inl f) (inr none) short few = inr (inl (omega arith, omega arith))
capped_alike ends places up down up' down' (inl e) (inr far) (inl none) short few = inr (inr (omega arith, omega arith))
capped_alike ends places up down up' down' (inl e) (inr far) (inr none) short few = absurd (omega arith)
capped_alike ends places up down up' down' (inr far) (inr deep) (inl none) short few = absurd (omega arith)
capped_alike ends places up down up' down' (inr far) (inr deep) (inr none) short few = absurd (omega arith)

pub some_value : (o : Option Decimal) (x y : Exact) → ((d : Decimal) → HasValue d x → HasValue d y) → IfSome o (λ d. HasValue d x) → IfSome o (λ d. HasValue d y)
some_value None x y go h = tt
some_value (Some d) x y go h = go d h

pub none_value : (o : Option Decimal) (x y : Exact) → ((d : Decimal) → HasValue d y → HasValue d x) → IfNone o (HasNoDecimal x) → IfNone o (HasNoDecimal y)
none_value None x y go h = λ d v. h d (go d v)
none_value (Some d) x y go h = tt

-- a number with too many digits has no decimal
pub long_none : (x : Exact) → IsLong x.digits → HasNoDecimal x
long_none x long =
    let t : Trims x.digits long.0 long.1 = record { trimmed = long.2; value = long.3 } in
    let whole = le-mul_of_pos_right long.0 (ten-pos (x.up + long.1 - x.down)) in
    no_decimal x long.0 long.1 t (inl (omega (arith, long.4)))
