-- Whole numbers with their signs, added and scaled.
use Rattle.std.proofs.Common.{◌≡◌, ◌≢◌, ℕ, ◌+◌, ◌-◌, ◌*◌, ◌<◌, ◌≤◌, Bool, ◌&&◌, true, false, ◌+ℤ◌, inl, inr, arith, refl, ap}
use Rattle.std.specs.Prelude.{nat_lt}
use Rattle.std.proofs.lemmas.Bool.{cases_lt, lt-ltb, le-ltb}
use Rattle.std.proofs.lemmas.Int.{ints}
use Rattle.json_doc.specs.DecimalValue.{signed}
use Rattle.json_doc.proofs.DecimalOrder.{mul_cancel}

-- the part above zero and the part below it
abbrev above : Bool → ℕ → ℕ
above true x = 0
above false x = x

abbrev below : Bool → ℕ → ℕ
below true x = x
below false x = 0

above-mul : (n : Bool) (x k : ℕ) → above n (x * k) ≡ above n x * k
above-mul true x k = omega arith
above-mul false x k = refl

below-mul : (n : Bool) (x k : ℕ) → below n (x * k) ≡ below n x * k
below-mul true x k = refl
below-mul false x k = omega arith

same_out : (n n' : Bool) (x y : ℕ) → signed n x ≡ signed n' y → above n x + below n' y ≡ below n x + above n' y
same_out true true x y e = omega (arith, ints)
same_out true false x y e = omega (arith, ints)
same_out false true x y e = omega (arith, ints)
same_out false false x y e = omega (arith, ints)

same_in : (n n' : Bool) (x y : ℕ) → above n x + below n' y ≡ below n x + above n' y → signed n x ≡ signed n' y
same_in true true x y e = omega (arith, ints)
same_in true false x y e = omega (arith, ints)
same_in false true x y e = omega (arith, ints)
same_in false false x y e = omega (arith, ints)

-- the same whole number has one size
pub signed-size : (n n' : Bool) (x y : ℕ) → signed n x ≡ signed n' y → x ≡ y
signed-size true true x y e = omega (arith, ints)
signed-size true false x y e = omega (arith, ints)
signed-size false true x y e = omega (arith, ints)
signed-size false false x y e = omega (arith, ints)

both_zero : (n n' : Bool) → signed n 0 ≡ signed n' 0
both_zero true true = refl
both_zero true false = omega (arith, ints)
both_zero false true = omega (arith, ints)
both_zero false false = refl

sign_kept : (n : Bool) (y : ℕ) → signed (n && true) y ≡ signed n y
sign_kept true y = refl
sign_kept false y = refl

same_sign : (n n' : Bool) (x y : ℕ) → signed n x ≡ signed n' y → 0 < y → n ≡ (n' && true)
same_sign true true x y e some = refl
same_sign true false x y e some = absurd (omega (arith, ints))
same_sign false true x y e some = absurd (omega (arith, ints))
same_sign false false x y e some = refl

no_sign : (n n' : Bool) (x y : ℕ) → signed n x ≡ signed n' y → (n ≡ true → 0 < x) → y ≡ 0 → n ≡ (n' && false)
no_sign true true x y e negative none = let some = negative refl in absurd (omega (arith, ints))
no_sign true false x y e negative none = let some = negative refl in absurd (omega (arith, ints))
no_sign false true x y e negative none = refl
no_sign false false x y e negative none = refl

-- one size, and the sign of what it counts, which zero has not
pub signed-from_size : (n n' : Bool) (x y m : ℕ) → x ≡ y → n ≡ (n' && nat_lt 0 m) → (m ≡ 0 → y ≡ 0) → signed n x ≡ signed n' y
signed-from_size n n' x y m e sign none = elim (cases_lt 0 m) [
  | inl some ↦ rw (e, sign, lt-ltb 0 m some) (sign_kept n' y)
  | inr zero ↦ let e' = none (omega arith) in rw (e, e') (both_zero n n')
]

pub sign-from_signed : (n n' : Bool) (x y m : ℕ) → signed n x ≡ signed n' y → (n ≡ true → 0 < x) → (0 < m → 0 < y) → (m ≡ 0 → y ≡ 0) → n ≡ (n' && nat_lt 0 m)
sign-from_signed n n' x y m e negative some none = elim (cases_lt 0 m) [
  | inl more ↦ rw (lt-ltb 0 m more) (same_sign n n' x y e (some more))
  | inr zero ↦ rw (le-ltb 0 m zero) (no_sign n n' x y e negative (none (omega arith)))
]

pub signed-scale : (n n' : Bool) (x y k : ℕ) → signed n x ≡ signed n' y → signed n (x * k) ≡ signed n' (y * k)
signed-scale n n' x y k e =
    let f = ap (λ v. v * k) (same_out n n' x y e) in
    same_in n n' (x * k) (y * k) (omega (arith, f, above-mul n x k, below-mul n x k, above-mul n' y k, below-mul n' y k))

pub signed-cancel : (n n' : Bool) (x y k : ℕ) → 0 < k → signed n (x * k) ≡ signed n' (y * k) → signed n x ≡ signed n' y
signed-cancel n n' x y k some e =
    let f = same_out n n' (x * k) (y * k) e in
    same_in n n' x y (mul_cancel (above n x + below n' y) (below n x + above n' y) k some (omega (arith, f, above-mul n x k, below-mul n x k, above-mul n' y k, below-mul n' y k)))

sum_out : (n a b : Bool) (m x y : ℕ) → signed n m ≡ signed a x +ℤ signed b y → above n m + below a x + below b y ≡ below n m + above a x + above b y
sum_out true true true m x y e = omega (arith, ints)
sum_out true true false m x y e = omega (arith, ints)
sum_out true false true m x y e = omega (arith, ints)
sum_out true false false m x y e = omega (arith, ints)
sum_out false true true m x y e = omega (arith, ints)
sum_out false true false m x y e = omega (arith, ints)
sum_out false false true m x y e = omega (arith, ints)
sum_out false false false m x y e = omega (arith, ints)

sum_in : (n a b : Bool) (m x y : ℕ) → above n m + below a x + below b y ≡ below n m + above a x + above b y → signed n m ≡ signed a x +ℤ signed b y
sum_in true true true m x y e = omega (arith, ints)
sum_in true true false m x y e = omega (arith, ints)
sum_in true false true m x y e = omega (arith, ints)
sum_in true false false m x y e = omega (arith, ints)
sum_in false true true m x y e = omega (arith, ints)
sum_in false true false m x y e = omega (arith, ints)
sum_in false false true m x y e = omega (arith, ints)
sum_in false false false m x y e = omega (arith, ints)

pub sum-scale : (n a b : Bool) (m x y k : ℕ) → signed n m ≡ signed a x +ℤ signed b y → signed n (m * k) ≡ signed a (x * k) +ℤ signed b (y * k)
sum-scale n a b m x y k e =
    let f = ap (λ v. v * k) (sum_out n a b m x y e) in
    sum_in n a b (m * k) (x * k) (y * k)
    (omega (arith, f, above-mul n m k, below-mul n m k, above-mul a x k, below-mul a x k, above-mul b y k, below-mul b y k))

pub sum-same : (a b : Bool) (x y : ℕ) → a ≡ b → signed a (x + y) ≡ signed a x +ℤ signed b y
sum-same true true x y e = omega (arith, ints)
sum-same false false x y e = omega (arith, ints)
sum-same true false x y e = absurd cc
sum-same false true x y e = absurd cc

pub sum-more : (a b : Bool) (x y : ℕ) → a ≢ b → y ≤ x → signed a (x - y) ≡ signed a x +ℤ signed b y
sum-more true true x y other more = absurd (other refl)
sum-more false false x y other more = absurd (other refl)
sum-more true false x y other more = omega (arith, ints)
sum-more false true x y other more = omega (arith, ints)
