-- The least form of a decimal fraction: the one decimal with a value, and when there is none.
use Rattle.std.proofs.Common.{◌≡◌, ◌≢◌, ℕ, zero, suc, ◌+◌, ◌-◌, ◌*◌, ◌/◌, ◌%◌, ◌^◌, ◌<◌, ◌≤◌, inl, inr, refl, sym, ap, ◌∙◌, arith}
use Rattle.std.proofs.Math.Nat.{pow-suc, mul_assoc, mul_right_comm, mul-one, mul-mod_left, eq_of_mul-eq-mul_right, one-le-pow, pow-le-pow_right, mul-le-mul_right}
use Rattle.std.proofs.lemmas.Nat.{pow-add}
use Rattle.std.proofs.lemmas.Bool.{cases_lt, cases_eq}
use Rattle.json_doc.specs.Least.{IsLeast}

pub ten-pos : (k : ℕ) → 0 < 10 ^ k
ten-pos k = one-le-pow k 10 (omega arith)

-- a power may be taken out in two parts
pub times-pow-add : (v i j : ℕ) → v * 10 ^ (i + j) ≡ v * 10 ^ j * 10 ^ i
times-pow-add v i j = ap (λ t. v * t) (pow-add 10 i j) ∙ sym (mul_assoc v (10 ^ i) (10 ^ j)) ∙ mul_right_comm v (10 ^ i) (10 ^ j)

pub pow-ends_zero : (v k : ℕ) → v * 10 ^ suc k % 10 ≡ 0
pow-ends_zero v k = ap (λ t. t % 10) (ap (λ t. v * t) (pow-suc 10 k) ∙ sym (mul_assoc v (10 ^ k) 10)) ∙ mul-mod_left (v * 10 ^ k) 10

-- of two sides with a power in common
common : (a b i j k : ℕ) → a * 10 ^ k ≡ b * 10 ^ j → j ≡ k + i → a ≡ b * 10 ^ i
common a b i j k e is = eq_of_mul-eq-mul_right (10 ^ k) (ten-pos k) a (b * 10 ^ i) (e ∙ ap (λ t. b * 10 ^ t) is ∙ times-pow-add b k i)

-- a number that doesn't end in zero has no power of ten in it
no_power : (v c k : ℕ) → v % 10 ≢ 0 → v ≡ c * 10 ^ k → k ≡ 0
no_power v c zero trimmed e = refl
no_power v c (suc k) trimmed e = absurd (trimmed (ap (λ t. t % 10) e ∙ pow-ends_zero c k))

pub times-pow-none : (v k : ℕ) → k ≡ 0 → v * 10 ^ k ≡ v
times-pow-none v k none = ap (λ t. v * 10 ^ t) none ∙ mul-one v

pub no_places : (c p : ℕ) → IsLeast c p → c % 10 ≡ 0 → p ≡ 0
no_places c p least e = elim (cases_lt 0 p) [ inl some ↦ absurd (least some e) | inr none ↦ omega arith ]

-- the decimal c / 10^p in least form is v * 10^up / 10^down, where v doesn't end in zero
pub least_is : (c p v up down : ℕ) → v % 10 ≢ 0 → IsLeast c p → c * 10 ^ down ≡ v * 10 ^ (up + p) → (c ≡ v * 10 ^ (up - down)) × (p ≡ down - up)
least_is c p v up down trimmed least e = elim (cases_lt down (up + p)) [
  | inl over ↦
      let k : ℕ = up + p - down - 1 in
      let is : c ≡ v * 10 ^ suc k = common c v (suc k) (up + p) down e (omega arith) in
      let whole : p ≡ 0 = no_places c p least (ap (λ t. t % 10) is ∙ pow-ends_zero v k) in
      let power : suc k ≡ up - down = omega arith in
      (is ∙ ap (λ t. v * 10 ^ t) power, omega arith)
  | inr under ↦
      let k : ℕ = down - (up + p) in
      let is : v ≡ c * 10 ^ k = common v c k down (up + p) (sym e) (omega arith) in
      let none : k ≡ 0 = no_power v c k trimmed is in
      (sym (is ∙ times-pow-none c k none) ∙ sym (times-pow-none v (up - down) (omega arith)), omega arith)
]

-- and that decimal is one
pub is_least : (c p v up down : ℕ) → v % 10 ≢ 0 → c ≡ v * 10 ^ (up - down) → p ≡ down - up → IsLeast c p × (c * 10 ^ down ≡ v * 10 ^ (up + p))
is_least c p v up down trimmed size places = (
  (λ some e. trimmed (ap (λ t. t % 10) (sym (size ∙ times-pow-none v (up - down) (omega arith))) ∙ e)),
  ap (λ t. t * 10 ^ down) size ∙ sym (times-pow-add v down (up - down)) ∙ ap (λ t. v * 10 ^ t) (let same : down + (up - down) ≡ up + p = omega arith in same),
)

-- a number of 128 bits ends in fewer than 39 zeros
pub few_zeros : (n v z : ℕ) → n ≡ v * 10 ^ z → 0 < v → n < 2 ^ 128 → z < 39
few_zeros n v z e some small = elim (cases_lt z 39) [
  | inl few ↦ few
  | inr many ↦
      let big : 10 ^ 39 ≤ 10 ^ z = pow-le-pow_right (let ten : 0 < 10 = omega arith in ten) many in
      let whole : 1 * 10 ^ z ≤ v * 10 ^ z = mul-le-mul_right (10 ^ z) some in
      absurd (omega arith)
]

-- a zero at the end counts as a power
pub zero_more : (n v z : ℕ) → n ≡ v * 10 ^ z → v % 10 ≡ 0 → n ≡ v / 10 * 10 ^ (z + 1)
zero_more n v z e zero_end =
    let front : v / 10 * 10 ≡ v = omega arith in
    let power : v / 10 * 10 ^ (z + 1) ≡ v / 10 * 10 * 10 ^ z = times-pow-add (v / 10) z 1 in
    e ∙ ap (λ t. t * 10 ^ z) (sym front) ∙ sym power

-- some digits and 36 places more are too many
pub many_places : (v k : ℕ) → 0 < v → 36 ≤ k → 10 ^ 36 ≤ v * 10 ^ k
many_places v k some many =
    let big : 10 ^ 36 ≤ 10 ^ k = pow-le-pow_right (let ten : 0 < 10 = omega arith in ten) many in
    let whole : 1 * 10 ^ k ≤ v * 10 ^ k = mul-le-mul_right (10 ^ k) some in
    omega arith

-- a power of fewer than 36 places fits 128 bits
pub small_power : (k : ℕ) → k < 36 → 10 ^ k < 2 ^ 128
small_power k few =
    let ten : 0 < 10 = omega arith in
    let at_most : k ≤ 36 = omega arith in
    let small : 10 ^ k ≤ 10 ^ 36 = pow-le-pow_right ten at_most in
    omega arith

pub trimmed-pos : (v : ℕ) → v % 10 ≢ 0 → 0 < v
trimmed-pos v other = elim (cases_eq v 0) [ inl e ↦ absurd (other (ap (λ t. t % 10) e)) | inr some ↦ omega arith ]

-- one place more
pub times-pow-one : (v k : ℕ) → v * 10 ^ (k + 1) ≡ v * 10 ^ k * 10
times-pow-one v k = let turned : k + 1 ≡ 1 + k = omega arith in ap (λ t. v * 10 ^ t) turned ∙ times-pow-add v 1 k
