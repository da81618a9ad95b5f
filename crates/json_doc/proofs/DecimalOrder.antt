-- The order of decimal fractions: by whole parts and then by what is left.
use Rattle.std.proofs.Common.{true, false, ◌≡◌, ◌≢◌, ℕ, ◌+◌, ◌-◌, ◌*◌, ◌/◌, ◌%◌, ◌^◌, ◌<◌, ◌≤◌, Less, Equal, Greater, Ordering, arith, sym, ap, ◌∙◌}
use Rattle.std.specs.Cmp.{nat_cmp_is, int_cmp_is}
use Rattle.std.specs.Ordering.{MatchOrdering, nat_cmp}
use Rattle.std.proofs.Math.Nat.{mul-le-mul_right, le_of_mul-le-mul_right, lt_of_mul-lt-mul_right, mul-lt-mul_of_pos_right}
use Rattle.std.proofs.lemmas.Cmp.{ranked}
use Rattle.std.proofs.lemmas.Nat.{div-add-mod', mod_below, pow-add}
use Rattle.std.proofs.lemmas.Int.{ints}
use Rattle.std.proofs.Common.{◌<ℤ◌}
use Rattle.json_doc.specs.declared.decimal.Decimal.{Decimal}
use Rattle.json_doc.specs.DecimalValue.{signed, value_cmp}
use Rattle.json_doc.proofs.Places.{pow_ten-pos}

pub mul_cancel : (x y k : ℕ) → 0 < k → x * k ≡ y * k → x ≡ y
mul_cancel x y k some e =
    let le = le_of_mul-le-mul_right {m = x} {n = y} {k = k} (omega (arith, e)) some in
    let ge = le_of_mul-le-mul_right {m = y} {n = x} {k = k} (omega (arith, e)) some in
    omega arith

-- a whole number in units of u, each worth g of the t that make a whole
in_units : (m w r u g t : ℕ) → w * u + r ≡ m → u * g ≡ t → m * t ≡ (w * t + r * g) * u
in_units m w r u g t split unit =
    let e = ap (λ k. k * t) split in
    let f = ap (λ k. r * k) unit in
    omega (arith, e, f)

pub part-below : (r u g t : ℕ) → u * g ≡ t → r < u → 0 < g → r * g < t
part-below r u g t unit below some = let le = mul-lt-mul_of_pos_right {m = r} {n = u} {k = g} below some in omega (arith, le, unit)

pub split_power : (p : ℕ) → p ≤ 30 → 10 ^ p * 10 ^ (30 - p) ≡ 10 ^ 30
split_power p short = let e : p + (30 - p) ≡ 30 = omega arith in sym (pow-add 10 p (30 - p)) ∙ ap (λ k. 10 ^ k) e

pub whole_and_part-is : (m p : ℕ) → p ≤ 30 → m * 10 ^ 30 ≡ (m / 10 ^ p * 10 ^ 30 + m % 10 ^ p * 10 ^ (30 - p)) * 10 ^ p
whole_and_part-is m p short = in_units m (m / 10 ^ p) (m % 10 ^ p) (10 ^ p) (10 ^ (30 - p)) (10 ^ 30) (div-add-mod' m (10 ^ p)) (split_power p short)

MatchOrdering-weaker : (r : Ordering) {P Q R P' Q' R' : Type 0} → (P → P') → (Q → Q') → (R → R') → MatchOrdering r P Q R → MatchOrdering r P' Q' R'
MatchOrdering-weaker Less f g h m = f m
MatchOrdering-weaker Equal f g h m = g m
MatchOrdering-weaker Greater f g h m = h m

module _ (x y a b s t : ℕ) (left : x * t ≡ a * s) (right : y * t ≡ b * s) (some_s : 0 < s) (some_t : 0 < t) where
  scaled_less : a < b → x < y
  scaled_less below = let lt = mul-lt-mul_of_pos_right {m = a} {n = b} {k = s} below some_s in lt_of_mul-lt-mul_right t {m = x} {n = y} (omega (arith, lt, left, right))

  scaled_same : a ≡ b → x ≡ y
  scaled_same same = mul_cancel x y t some_t (left ∙ ap (λ k. k * s) same ∙ sym right)

  scaled_more : b < a → y < x
  scaled_more above = let lt = mul-lt-mul_of_pos_right {m = b} {n = a} {k = s} above some_s in lt_of_mul-lt-mul_right t {m = y} {n = x} (omega (arith, lt, left, right))

-- two values of the form (w * t + r) / t in order
module _ (x y w r w' r' s t : ℕ) (left : x * t ≡ (w * t + r) * s) (right : y * t ≡ (w' * t + r') * s) (some_s : 0 < s) (below : r < t) (below' : r' < t) where
  some_t : 0 < t
  some_t = omega arith

  by_wholes : w < w' → w * t + r < w' * t + r'
  by_wholes less = let le = mul-le-mul_right {m = w + 1} {n = w'} t (omega arith) in omega (arith, le)

  by_wholes_back : w' < w → w' * t + r' < w * t + r
  by_wholes_back less = let le = mul-le-mul_right {m = w' + 1} {n = w} t (omega arith) in omega (arith, le)

  pub cmp_by_parts : (o : Ordering) → w ≡ w' → o ≡ nat_cmp r r' → o ≡ nat_cmp x y
  cmp_by_parts o same e =
      let f = ap (λ k. k * t) same in
      nat_cmp_is x y o (MatchOrdering-weaker o
      (λ lt. scaled_less x y _ _ s t left right some_s some_t (omega (arith, f, lt)))
      (λ eq. scaled_same x y _ _ s t left right some_s some_t (omega (arith, f, eq)))
      (λ gt. scaled_more x y _ _ s t left right some_s some_t (omega (arith, f, gt)))
      (ranked r r' o e))

  pub cmp_by_wholes : (o : Ordering) → w ≢ w' → o ≡ nat_cmp w w' → o ≡ nat_cmp x y
  cmp_by_wholes o other e =
      nat_cmp_is x y o (MatchOrdering-weaker o
      (λ lt. scaled_less x y _ _ s t left right some_s some_t (by_wholes lt))
      (λ eq. absurd (other eq))
      (λ gt. scaled_more x y _ _ s t left right some_s some_t (by_wholes_back gt))
      (ranked w w' o e))

-- the sizes of two fractions with p and q places, over the denominator 10^(p + q)
module _ (m n p q w r w' r' : ℕ) (left : m * 10 ^ 30 ≡ (w * 10 ^ 30 + r) * 10 ^ p) (right : n * 10 ^ 30 ≡ (w' * 10 ^ 30 + r') * 10 ^ q) (below : r < 10 ^ 30) (below' : r' < 10 ^ 30) where
  over_left : m * 10 ^ q * 10 ^ 30 ≡ (w * 10 ^ 30 + r) * (10 ^ p * 10 ^ q)
  over_left = let f = ap (λ k. k * 10 ^ q) left in omega (arith, f)

  over_right : n * 10 ^ p * 10 ^ 30 ≡ (w' * 10 ^ 30 + r') * (10 ^ p * 10 ^ q)
  over_right = let f = ap (λ k. k * 10 ^ p) right in omega (arith, f)

  some_powers : 0 < 10 ^ p * 10 ^ q
  some_powers = let lt = mul-lt-mul_of_pos_right {m = 0} {n = 10 ^ p} {k = 10 ^ q} (pow_ten-pos p) (pow_ten-pos q) in omega (arith, lt)

  pub sizes_by_parts : (o : Ordering) → w ≡ w' → o ≡ nat_cmp r r' → o ≡ nat_cmp (m * 10 ^ q) (n * 10 ^ p)
  sizes_by_parts = cmp_by_parts (m * 10 ^ q) (n * 10 ^ p) w r w' r' (10 ^ p * 10 ^ q) (10 ^ 30) over_left over_right some_powers below below'

  pub sizes_by_wholes : (o : Ordering) → w ≢ w' → o ≡ nat_cmp w w' → o ≡ nat_cmp (m * 10 ^ q) (n * 10 ^ p)
  sizes_by_wholes = cmp_by_wholes (m * 10 ^ q) (n * 10 ^ p) w r w' r' (10 ^ p * 10 ^ q) (10 ^ 30) over_left over_right some_powers below below'

pub part-fits : (m p : ℕ) → p ≤ 30 → m % 10 ^ p * 10 ^ (30 - p) < 10 ^ 30
part-fits m p short =
    part-below (m % 10 ^ p) (10 ^ p) (10 ^ (30 - p)) (10 ^ 30) (split_power p short) (mod_below m (10 ^ p) (pow_ten-pos p)) (pow_ten-pos (30 - p))

-- a number below zero is less than one that is not
below_zero : (x y : ℕ) → 0 < x → signed true x <ℤ signed false y
below_zero x y some = omega (arith, ints)

size-pos : (a : Decimal) (places : ℕ) → a.is_negative ≡ true → 0 < a.magnitude * 10 ^ places
size-pos a places negative = let le = mul-lt-mul_of_pos_right {m = 0} {n = a.magnitude} {k = 10 ^ places} (a.one_zero negative) (pow_ten-pos places) in omega (arith, le)

pub value_cmp-less : (a b : Decimal) → a.is_negative ≡ true → b.is_negative ≡ false → Less ≡ value_cmp a b
value_cmp-less a b negative other =
    rw (negative, other) (int_cmp_is _ _ Less (below_zero (a.magnitude * 10 ^ b.scale) (b.magnitude * 10 ^ a.scale) (size-pos a b.scale negative)))

pub value_cmp-greater : (a b : Decimal) → a.is_negative ≡ false → b.is_negative ≡ true → Greater ≡ value_cmp a b
value_cmp-greater a b other negative =
    rw (negative, other) (int_cmp_is _ _ Greater (below_zero (b.magnitude * 10 ^ a.scale) (a.magnitude * 10 ^ b.scale) (size-pos b a.scale negative)))
