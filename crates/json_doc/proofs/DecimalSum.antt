-- Sums of decimal fractions, and the least form of a fraction.
use Rattle.std.proofs.Common.{suc, ◌≡◌, ℕ, ◌+◌, ◌-◌, ◌*◌, ◌%◌, ◌^◌, ◌<◌, ◌≤◌, Bool, true, false, ◌+ℤ◌, ◌⊎◌, inl, inr, ⊎_elim, arith, refl, sym, ap, ◌∙◌}
use Rattle.std.specs.Prelude.{Option, Some, None, IfSome, IfNone}
use Rattle.std.proofs.lemmas.Bool.{cases_lt}
use Rattle.std.proofs.lemmas.Nat.{pow-add}
use Rattle.std.proofs.Math.Nat.{mul-pos, zero-mul, pow-suc}
use Rattle.json_doc.specs.declared.decimal.Decimal.{Decimal}
use Rattle.json_doc.specs.DecimalValue.{signed, IsSum}
use Rattle.json_doc.specs.Exact.{exact, HasValue, HasNoDecimal}
use Rattle.json_doc.specs.Least.{IsLeast}
use Rattle.json_doc.proofs.DecimalOrder.{mul_cancel}
use Rattle.json_doc.proofs.Places.{pow_ten-pos}
use Rattle.json_doc.proofs.Signed.{signed-size, signed-from_size, sign-from_signed, signed-scale, signed-cancel, sum-scale, sum-same, sum-more}

ten-power : (p : ℕ) → 0 < p → 10 ^ p ≡ 10 ^ (p - 1) * 10
ten-power p some = let e : p ≡ suc (p - 1) = omega arith in ap (λ k. 10 ^ k) e ∙ pow-suc 10 (p - 1)

-- a fraction with fewer places ends in a zero at more of them
ends_in_zero : (m n p q : ℕ) → p < q → m * 10 ^ q ≡ n * 10 ^ p → n % 10 ≡ 0
ends_in_zero m n p q fewer e =
    let gap : p + (q - p) ≡ q = omega arith in
    let power = ap (λ k. m * 10 ^ k) (sym gap) ∙ ap (λ k. m * k) (pow-add 10 p (q - p)) in
    let tail = ap (λ k. m * k) (ten-power (q - p) (omega arith)) in
    let same = mul_cancel n (m * 10 ^ (q - p)) (10 ^ p) (pow_ten-pos p) (omega (arith, e, power)) in
    let last : n ≡ m * 10 ^ (q - p - 1) * 10 = same ∙ (omega (arith, tail)) in
    omega (arith, last)

-- a fraction has one least form
pub one_form : (m n p q : ℕ) → IsLeast m p → IsLeast n q → m * 10 ^ q ≡ n * 10 ^ p → m ≡ n
one_form m n p q least least' e =
    ⊎_elim (λ (fewer : p < q). absurd (least' (omega arith) (ends_in_zero m n p q fewer e)))
    (λ (rest : q ≤ p). ⊎_elim (λ (more : q < p). absurd (least (omega arith) (ends_in_zero n m q p more (sym e))))
    (λ (rest' : p ≤ q). let same : p ≡ q = omega arith in mul_cancel m n (10 ^ q) (pow_ten-pos q) (e ∙ ap (λ k. n * 10 ^ k) same))
    (cases_lt q p))
    (cases_lt p q)

-- the least form of size / 10^scale is what any decimal fraction of that value has
pub least_magnitude : (n : Decimal) (m q size scale : ℕ) → m * 10 ^ scale ≡ size * 10 ^ q → IsLeast m q → n.magnitude * 10 ^ scale ≡ size * 10 ^ n.scale → n.magnitude ≡ m
least_magnitude n m q size scale e least f =
    let g = ap (λ k. k * 10 ^ n.scale) e in
    let h = ap (λ k. k * 10 ^ q) f in
    one_form n.magnitude m n.scale q n.least least
    (mul_cancel (n.magnitude * 10 ^ q) (m * 10 ^ n.scale) (10 ^ scale) (pow_ten-pos scale) (omega (arith, g, h)))

-- A decimal has the value m / 10^scale exactly where the numerators agree, signs and all.

none-scaled : (m k : ℕ) → m ≡ 0 → m * 10 ^ k ≡ 0
none-scaled m k none = ap (λ n. n * 10 ^ k) none ∙ zero-mul (10 ^ k)

form_from_value : (d : Decimal) (n : Bool) (m scale : ℕ) → HasValue d (exact n m 0 scale) → signed d.is_negative (d.magnitude * 10 ^ scale) ≡ signed n (m * 10 ^ d.scale)
form_from_value d n m scale value =
    let none_up : 0 + d.scale ≡ d.scale = omega arith in
    let size = value.size ∙ ap (λ k. m * 10 ^ k) none_up in
    signed-from_size d.is_negative n (d.magnitude * 10 ^ scale) (m * 10 ^ d.scale) m size value.sign (none-scaled m d.scale)

value_from_form : (d : Decimal) (n : Bool) (m scale : ℕ) → signed d.is_negative (d.magnitude * 10 ^ scale) ≡ signed n (m * 10 ^ d.scale) → HasValue d (exact n m 0 scale)
value_from_form d n m scale form =
    let none_up : d.scale ≡ 0 + d.scale = omega arith in
    let positive = λ (negative : d.is_negative ≡ true). mul-pos (d.one_zero negative) (pow_ten-pos scale) in
    let some_scaled = λ (some : 0 < m). mul-pos some (pow_ten-pos d.scale) in
    record {
      size = signed-size _ _ _ _ form ∙ ap (λ k. m * 10 ^ k) none_up;
      sign = sign-from_signed d.is_negative n (d.magnitude * 10 ^ scale) (m * 10 ^ d.scale) m form positive some_scaled (none-scaled m d.scale);
    }

-- the sum of two whole numbers with their signs, where the second is smaller
sum_of : (a b : Bool) (x y : ℕ) → y ≤ x → (n : Bool) × (m : ℕ) × (signed n m ≡ signed a x +ℤ signed b y) × ((m ≡ x + y) ⊎ (m ≡ x - y))
sum_of true true x y smaller = (true, x + y, sum-same true true x y refl, inl refl)
sum_of false false x y smaller = (false, x + y, sum-same false false x y refl, inl refl)
sum_of true false x y smaller = (true, x - y, sum-more true false x y (λ e. cc) smaller, inr refl)
sum_of false true x y smaller = (false, x - y, sum-more false true x y (λ e. cc) smaller, inr refl)

past_most : (x y m : ℕ) → 2 * 10 ^ 36 ≤ x → y < 10 ^ 36 → (m ≡ x + y) ⊎ (m ≡ x - y) → 10 ^ 36 ≤ m
past_most x y m large small (inl e) = omega arith
past_most x y m large small (inr e) = omega arith

-- a number that ends in a zero, with one that does not, gives one that does not
last_digit : (x y m tens : ℕ) → x ≡ tens * 10 → y ≤ x → (m ≡ x + y) ⊎ (m ≡ x - y) → (y % 10 ≡ 0 → ⊥) → m % 10 ≡ 0 → ⊥
last_digit x y m tens e smaller (inl is) last zero_last = last (omega arith)
last_digit x y m tens e smaller (inr is) last zero_last = last (omega arith)

-- The sum of two fractions, the second with at least as many places, as a whole number over the
-- denominator of the second.
module _ (short long : Decimal) (ordered : short.scale ≤ long.scale) where
  abbrev pub raised_magnitude : ℕ
  raised_magnitude = short.magnitude * 10 ^ (long.scale - short.scale)

  numerator-short : (p : ℕ) → raised_magnitude * 10 ^ (short.scale + p) ≡ short.magnitude * 10 ^ (long.scale + p)
  numerator-short p =
      let gap : long.scale - short.scale + (short.scale + p) ≡ long.scale + p = omega arith in
      let power = ap (λ k. short.magnitude * k) (sym (pow-add 10 (long.scale - short.scale) (short.scale + p)) ∙ ap (λ k. 10 ^ k) gap) in
      omega (arith, power)

  module _ (n : Bool) (m : ℕ) (is_sum : signed n m ≡ signed short.is_negative raised_magnitude +ℤ signed long.is_negative long.magnitude) (sum : Decimal) where
    -- both numerators over the denominator of all three
    whole_sum : signed n (m * 10 ^ sum.scale * 10 ^ short.scale) ≡ signed short.is_negative (short.magnitude * 10 ^ (long.scale + sum.scale)) +ℤ signed long.is_negative (long.magnitude * 10 ^ (short.scale + sum.scale))
    whole_sum =
        let scaled = sum-scale n short.is_negative long.is_negative m raised_magnitude long.magnitude (10 ^ (short.scale + sum.scale)) is_sum in
        let power = ap (λ k. m * k) (pow-add 10 short.scale sum.scale) in
        let order : m * 10 ^ sum.scale * 10 ^ short.scale ≡ m * 10 ^ (short.scale + sum.scale) = omega (arith, power) in
        ap (signed n) order ∙ scaled ∙ ap (λ k. signed short.is_negative k +ℤ signed long.is_negative (long.magnitude * 10 ^ (short.scale + sum.scale))) (numerator-short sum.scale)

    sum_size : sum.magnitude * 10 ^ long.scale * 10 ^ short.scale ≡ sum.magnitude * 10 ^ (short.scale + long.scale)
    sum_size = let power = ap (λ k. sum.magnitude * k) (pow-add 10 short.scale long.scale) in omega (arith, power)

    pub IsSum-from_form : signed sum.is_negative (sum.magnitude * 10 ^ long.scale) ≡ signed n (m * 10 ^ sum.scale) → IsSum short long sum
    IsSum-from_form form =
        sym whole_sum ∙ sym (signed-scale _ _ _ _ (10 ^ short.scale) form) ∙ ap (signed sum.is_negative) sum_size

    pub form_from_IsSum : IsSum short long sum → signed sum.is_negative (sum.magnitude * 10 ^ long.scale) ≡ signed n (m * 10 ^ sum.scale)
    form_from_IsSum is =
        signed-cancel _ _ _ _ (10 ^ short.scale) (pow_ten-pos short.scale) (ap (signed sum.is_negative) sum_size ∙ sym is ∙ sym whole_sum)

  module _ (n : Bool) (m : ℕ) (is_sum : signed n m ≡ signed short.is_negative raised_magnitude +ℤ signed long.is_negative long.magnitude) where
    pub sum_found : (o : Option Decimal) → IfSome o (λ sum. HasValue sum (exact n m 0 long.scale)) → IfSome o (IsSum short long)
    sum_found None value = tt
    sum_found (Some sum) value = IsSum-from_form n m is_sum sum (form_from_value sum n m long.scale value)

    pub none_found : (o : Option Decimal) → IfNone o (HasNoDecimal (exact n m 0 long.scale)) → IfNone o ((sum : Decimal) → IsSum short long sum → ⊥)
    none_found None none = λ sum is. none sum (value_from_form sum n m long.scale (form_from_IsSum n m is_sum sum is))
    none_found (Some sum) none = tt

  -- where the first is raised past any magnitude, no decimal fraction is the sum
  pub too_large : 2 * 10 ^ 36 ≤ raised_magnitude → (sum : Decimal) → IsSum short long sum → ⊥
  too_large large sum is =
      let small = short.small in
      let small' = long.small in
      ⊎_elim
      (λ (fewer : short.scale < long.scale).
      let found = sum_of short.is_negative long.is_negative raised_magnitude long.magnitude (omega arith) in
      let tail = ap (λ k. short.magnitude * k) (ten-power (long.scale - short.scale) (omega arith)) in
      let tens : raised_magnitude ≡ short.magnitude * 10 ^ (long.scale - short.scale - 1) * 10 = omega (arith, tail) in
      let m = found.1 in
      let most : 10 ^ 36 ≤ m = past_most raised_magnitude long.magnitude m large small' found.3 in
      let last : m % 10 ≡ 0 → ⊥ = last_digit raised_magnitude long.magnitude m (short.magnitude * 10 ^ (long.scale - short.scale - 1)) tens (omega arith) found.3 (long.least (omega arith)) in
      let form = form_from_IsSum found.0 m found.2 sum is in
      let same = least_magnitude sum m long.scale m long.scale refl (λ places. last) (signed-size _ _ _ _ form) in
      let small'' = sum.small in
      omega (arith, same, small'', most))
      (λ (rest : long.scale ≤ short.scale).
      let none : long.scale - short.scale ≡ 0 = omega arith in
      let same = ap (λ k. short.magnitude * 10 ^ k) none in
      omega (arith, same, small, large))
      (cases_lt short.scale long.scale)
