-- Decimals and the values that they have: each value has one decimal at most.
use Rattle.std.proofs.Common.{◌≡◌, ◌≢◌, ℕ, zero, suc, ◌+◌, ◌*◌, ◌/◌, ◌%◌, ◌^◌, ◌<◌, ◌≤◌, Bool, true, false, ◌&&◌, nat_lt, Option, Some, None, IfSome, IfNone, inl, inr, refl, sym, ap, ◌∙◌, subst, arith}
use Rattle.std.proofs.Math.Nat.{pow-suc, mul_assoc, mul-pos, eq_of_mul-eq-mul_right}
use Rattle.std.proofs.lemmas.Bool.{cases_lt, cases_eq, lt-ltb}
use Rattle.json_doc.specs.declared.decimal.Decimal.{Decimal}
use Rattle.json_doc.specs.contracts.decimal.Decimal as laws
use Rattle.json_doc.specs.Exact.{Exact, HasValue, HasNoDecimal, IsForm, IsTooWide}
use Rattle.json_doc.proofs.LeastForms.{ten-pos, times-pow-add, times-pow-none, no_places, least_is, is_least, trimmed-pos}

made_same : {V D : Type 0} (G : V → Type 0) → ((v : V) → IsProp (G v)) → (make : (v : V) → G v → D) → (v w : V) → v ≡ w → (g : G v) (h : G w) → make v g ≡ make w h
made_same G prop make v w e g = subst (λ u. (h : G u) → make v g ≡ make u h) e (λ h. ap (make v) (prop v g h))

-- a decimal is its three numbers
pub Decimal-same : (d e : Decimal) → d.is_negative ≡ e.is_negative → d.magnitude ≡ e.magnitude → d.scale ≡ e.scale → d ≡ e
Decimal-same d e sign size places =
    made_same laws.the_ghost laws.the_propositions laws.struct.make (laws.struct.as_values d) (laws.struct.as_values e) (let same : laws.struct.as_values d ≡ laws.struct.as_values e = cc in same) (laws.struct.ghosts d) (laws.struct.ghosts e)

-- Zeros at the end of the digits count as a power.

-- digits without zeros at their end, and how many zeros there were
pub record Trims (n v z : ℕ) : Type 0 where
  pub trimmed : v % 10 ≢ 0
  pub value : n ≡ v * 10 ^ z

pub Trims-more : (n v z : ℕ) → Trims n v z → Trims (n * 10) v (suc z)
Trims-more n v z t = record {
  trimmed = t.trimmed;
  value = ap (λ m. m * 10) t.value ∙ mul_assoc v (10 ^ z) 10 ∙ ap (λ p. v * p) (sym (pow-suc 10 z));
}

pub Trims-none : (n : ℕ) → n % 10 ≢ 0 → Trims n n 0
Trims-none n other = record { trimmed = other; value = sym (times-pow-none n 0 refl) }

trims_within : (fuel n : ℕ) → n ≤ fuel → 0 < n → (v : ℕ) × (z : ℕ) × Trims n v z
trims_within zero n small some = absurd (omega arith)
trims_within (suc fuel) n small some = elim (cases_eq (n % 10) 0) [
  | inl e ↦
      let t = trims_within fuel (n / 10) (omega arith) (omega arith) in
      let whole : n / 10 * 10 ≡ n = omega arith in
      (t.0, suc t.1, subst (λ m. Trims m t.0 (suc t.1)) whole (Trims-more (n / 10) t.0 t.1 t.2))
  | inr other ↦ (n, 0, Trims-none n other)
]

-- each number above zero ends in some zeros, perhaps none
pub trims : (n : ℕ) → 0 < n → (v : ℕ) × (z : ℕ) × Trims n v z
trims n some = trims_within n n (omega arith) some

-- The least form of a value.

shifted : (n v z up p : ℕ) → n ≡ v * 10 ^ z → n * 10 ^ (up + p) ≡ v * 10 ^ (up + z + p)
shifted n v z up p e =
    ap (λ t. t * 10 ^ (up + p)) e ∙ sym (times-pow-add v (up + p) z) ∙ ap (λ t. v * 10 ^ t) (let same : up + p + z ≡ up + z + p = omega arith in same)

pub form_of : (d : Decimal) (x : Exact) (v z : ℕ) → Trims x.digits v z → HasValue d x → IsForm d v (x.up + z) x.down
form_of d x v z t h =
    let l = least_is d.magnitude d.scale v (x.up + z) x.down t.trimmed d.least (h.size ∙ shifted x.digits v z x.up d.scale t.value) in
    record { size = l.0; places = l.1 }

and-true : (b : Bool) → (b && true) ≡ b
and-true true = refl
and-true false = refl

and-false : (b : Bool) → (b && false) ≡ false
and-false true = refl
and-false false = refl

pub Trims-pos : (n v z : ℕ) → Trims n v z → 0 < n
Trims-pos n v z t = subst (λ m. 0 < m) (sym t.value) (mul-pos (trimmed-pos v t.trimmed) (ten-pos z))

-- the sign of a value that isn't zero
pub sign_of_some : (b : Bool) (n : ℕ) → 0 < n → (b && nat_lt 0 n) ≡ b
sign_of_some b n some = ap (λ t. b && t) (lt-ltb 0 n some) ∙ and-true b

pub sign_of_none : (b : Bool) (n : ℕ) → n ≡ 0 → (b && nat_lt 0 n) ≡ false
sign_of_none b n none = ap (λ m. b && nat_lt 0 m) none ∙ and-false b

pub value_of_form : (d : Decimal) (x : Exact) (v z : ℕ) → Trims x.digits v z → IsForm d v (x.up + z) x.down → d.is_negative ≡ x.is_negative → HasValue d x
value_of_form d x v z t f sign =
    let l = is_least d.magnitude d.scale v (x.up + z) x.down t.trimmed f.size f.places in
    record {
      size = l.1 ∙ sym (shifted x.digits v z x.up d.scale t.value);
      sign = sign ∙ sym (sign_of_some x.is_negative x.digits (Trims-pos x.digits v z t));
    }

-- Zero.

-- the decimal 0
pub record IsZero (d : Decimal) : Type 0 where
  pub sign : d.is_negative ≡ false
  pub size : d.magnitude ≡ 0
  pub places : d.scale ≡ 0

pub zero_of : (d : Decimal) (x : Exact) → x.digits ≡ 0 → HasValue d x → IsZero d
zero_of d x none h =
    let nothing : 0 * 10 ^ (x.up + d.scale) ≡ 0 * 10 ^ x.down = omega arith in
    let size : d.magnitude ≡ 0 = eq_of_mul-eq-mul_right (10 ^ x.down) (ten-pos x.down) d.magnitude 0 (h.size ∙ ap (λ t. t * 10 ^ (x.up + d.scale)) none ∙ nothing) in
    record {
      sign = h.sign ∙ sign_of_none x.is_negative x.digits none;
      size = size;
      places = no_places d.magnitude d.scale d.least (ap (λ t. t % 10) size);
    }

pub value_of_zero : (d : Decimal) (x : Exact) → x.digits ≡ 0 → IsZero d → HasValue d x
value_of_zero d x none z =
    let nothing : 0 * 10 ^ x.down ≡ 0 * 10 ^ (x.up + d.scale) = omega arith in
    record {
      size = ap (λ t. t * 10 ^ x.down) z.size ∙ nothing ∙ ap (λ t. t * 10 ^ (x.up + d.scale)) (sym none);
      sign = z.sign ∙ sym (sign_of_none x.is_negative x.digits none);
    }

-- one value, one decimal
pub one_decimal : (d e : Decimal) (x : Exact) → HasValue d x → HasValue e x → d ≡ e
one_decimal d e x h i = elim (cases_lt 0 x.digits) [
  | inl some ↦
      let t = trims x.digits some in
      let f = form_of d x t.0 t.1 t.2 h in
      let g = form_of e x t.0 t.1 t.2 i in
      Decimal-same d e (h.sign ∙ sym i.sign) (f.size ∙ sym g.size) (f.places ∙ sym g.places)
  | inr none ↦
      let f = zero_of d x (omega arith) h in
      let g = zero_of e x (omega arith) i in
      Decimal-same d e (h.sign ∙ sym i.sign) (f.size ∙ sym g.size) (f.places ∙ sym g.places)
]

-- what is too wide has no decimal
pub no_decimal : (x : Exact) (v z : ℕ) → Trims x.digits v z → IsTooWide v (x.up + z) x.down → HasNoDecimal x
no_decimal x v z t (inl long) d h = let f = form_of d x v z t h in let small = d.small in absurd (omega (arith, f.size))
no_decimal x v z t (inr deep) d h = let f = form_of d x v z t h in let short = d.short in absurd (omega (arith, f.places))

-- what a form says of the value that it is made for
pub value_if_form : (o : Option Decimal) (x : Exact) (v z : ℕ) → Trims x.digits v z → IfSome o (λ d. (d.is_negative ≡ x.is_negative) × IsForm d v (x.up + z) x.down) → IfSome o (λ d. HasValue d x)
value_if_form None x v z t h = tt
value_if_form (Some d) x v z t h = value_of_form d x v z t h.1 h.0

pub none_if_wide : (o : Option Decimal) (x : Exact) (v z : ℕ) → Trims x.digits v z → IfNone o (IsTooWide v (x.up + z) x.down) → IfNone o (HasNoDecimal x)
none_if_wide None x v z t h = no_decimal x v z t h
none_if_wide (Some d) x v z t h = tt
