-- The order of keys is a total order.
use Rattle.std.proofs.Common.{◌≡◌, ◌<◌, ◌≤◌, ℕ, ◌-◌, ◌*◌, ◌^◌, Bool, true, false, ℤ, inl, inr, refl, sym, ap, ◌∙◌, subst, arith}
use Rattle.std.specs.declared.cmp.Ordering.{Ordering}
use Rattle.std.specs.declared.cmp.Ordering.TheVariants.{Less, Equal, Greater}
use Rattle.std.specs.Cmp.{IsTotalOrder, IsStrictWeakOrder}
use Rattle.std.specs.Ordering.{int_cmp, MatchOrdering}
use Rattle.std.specs.Prelude.{◌<ℤ◌}
use Rattle.std.proofs.lemmas.Cmp.{int_ranked, int_cmp_total, on_total, then_total, nat_list_cmp_total}
use Rattle.std.proofs.Math.Nat.{mul-pos, mul-lt-mul_of_pos_right}
use Rattle.std.proofs.lemmas.Bool.{cases_lt}
use Rattle.std.proofs.lemmas.Int.{ints}
use Rattle.std.proofs.lemmas.List.Sorted.{ranks_by, IsStrictWeakOrder-flip}
use Rattle.std.specs.Cmp.Lexicographic.{options_total}
use Rattle.json_doc.specs.declared.decimal.Decimal.{Decimal}
use Rattle.json_doc.specs.declared.doc.Doc.{Doc}
use Rattle.json_doc.specs.DecimalValue.{signed, value_cmp}
use Rattle.json_doc.proofs.DecimalOrder.{split_power}
use Rattle.json_doc.proofs.LeastForms.{ten-pos}
use Rattle.json_doc.proofs.Signed.{signed-scale}
use Rattle.jmes_eval.specs.Kinds.{number_of, text_of}
use Rattle.jmes_eval.specs.Orders.{key_cmp, is_before, is_behind}

-- an answer for two whole numbers is the answer for two that stand alike
module _ (u v u' v' : ℤ) (less : u <ℤ v → u' <ℤ v') (same : u ≡ v → u' ≡ v') (more : v <ℤ u → v' <ℤ u') where
  by_both : (r r' : Ordering) → MatchOrdering r (u <ℤ v) (u ≡ v) (v <ℤ u) → MatchOrdering r' (u' <ℤ v') (u' ≡ v') (v' <ℤ u') → r ≡ r'
  by_both Less Less h h' = refl
  by_both Less Equal h h' = let g = less h in absurd (omega (arith, ints))
  by_both Less Greater h h' = let g = less h in absurd (omega (arith, ints))
  by_both Equal Less h h' = let g = same h in absurd (omega (arith, ints))
  by_both Equal Equal h h' = refl
  by_both Equal Greater h h' = let g = same h in absurd (omega (arith, ints))
  by_both Greater Less h h' = let g = more h in absurd (omega (arith, ints))
  by_both Greater Equal h h' = let g = more h in absurd (omega (arith, ints))
  by_both Greater Greater h h' = refl

  cmp_alike : int_cmp u v ≡ int_cmp u' v'
  cmp_alike = by_both (int_cmp u v) (int_cmp u' v') (int_ranked u v (int_cmp u v) refl) (int_ranked u' v' (int_cmp u' v') refl)

scaled-less : (n n' : Bool) (x y k : ℕ) → 0 < k → signed n x <ℤ signed n' y → signed n (x * k) <ℤ signed n' (y * k)
scaled-less true true x y k some h =
    let less : y < x = omega (arith, ints) in
    let g = mul-lt-mul_of_pos_right less some in
    omega (arith, ints)
scaled-less false false x y k some h =
    let less : x < y = omega (arith, ints) in
    let g = mul-lt-mul_of_pos_right less some in
    omega (arith, ints)
scaled-less false true x y k some h = absurd (omega (arith, ints))
scaled-less true false x y k some h = elim (cases_lt 0 x) [
  | inl above ↦ let g = mul-pos above some in omega (arith, ints)
  | inr none ↦
      let above : 0 < y = omega (arith, ints) in
      let g = mul-pos above some in
      let zero_x : x ≡ 0 = omega arith in
      let nothing = ap (λ t. t * k) zero_x in
      omega (arith, ints, nothing)
]

int_cmp-scale : (n n' : Bool) (x y k : ℕ) → 0 < k → int_cmp (signed n x) (signed n' y) ≡ int_cmp (signed n (x * k)) (signed n' (y * k))
int_cmp-scale n n' x y k some =
    cmp_alike (signed n x) (signed n' y) (signed n (x * k)) (signed n' (y * k))
    (scaled-less n n' x y k some) (signed-scale n n' x y k) (scaled-less n' n y x k some)

-- a decimal in units of the 30th place
abbrev units30 : Decimal → ℤ
units30 d = signed d.is_negative (d.magnitude * 10 ^ (30 - d.scale))

raised : (m p q : ℕ) → q ≤ 30 → m * 10 ^ q * (10 ^ (30 - p) * 10 ^ (30 - q)) ≡ m * 10 ^ (30 - p) * 10 ^ 30
raised m p q short =
    let power = ap (λ t. m * 10 ^ (30 - p) * t) (split_power q short) in
    omega (arith, power)

value_cmp-units30 : (a b : Decimal) → int_cmp (units30 a) (units30 b) ≡ value_cmp a b
value_cmp-units30 a b =
    let k = 10 ^ (30 - a.scale) * 10 ^ (30 - b.scale) in
    let swap : b.magnitude * 10 ^ a.scale * k ≡ b.magnitude * 10 ^ a.scale * (10 ^ (30 - b.scale) * 10 ^ (30 - a.scale)) = omega arith in
    int_cmp-scale a.is_negative b.is_negative (a.magnitude * 10 ^ (30 - a.scale)) (b.magnitude * 10 ^ (30 - b.scale)) (10 ^ 30) (ten-pos 30)
    ∙ sym (ap (λ t. int_cmp (signed a.is_negative t) (signed b.is_negative (b.magnitude * 10 ^ (30 - b.scale) * 10 ^ 30))) (raised a.magnitude a.scale b.scale b.short))
    ∙ sym (ap (λ t. int_cmp (signed a.is_negative (a.magnitude * 10 ^ b.scale * k)) (signed b.is_negative t)) (swap ∙ raised b.magnitude b.scale a.scale a.short))
    ∙ sym (int_cmp-scale a.is_negative b.is_negative (a.magnitude * 10 ^ b.scale) (b.magnitude * 10 ^ a.scale) k (mul-pos (ten-pos (30 - a.scale)) (ten-pos (30 - b.scale))))

value_total : IsTotalOrder value_cmp
value_total = subst IsTotalOrder (λ i a b. value_cmp-units30 a b i) (on_total units30 int_cmp_total)

key_total : IsTotalOrder key_cmp
key_total = then_total (on_total number_of (options_total value_total)) (on_total text_of (options_total nat_list_cmp_total))

pub before_order : {X : Type 0} (key : X → Doc) → IsStrictWeakOrder (λ x y. is_before (key x) (key y))
before_order key = ranks_by key_total key

pub behind_order : {X : Type 0} (key : X → Doc) → IsStrictWeakOrder (λ x y. is_behind (key x) (key y))
behind_order key = IsStrictWeakOrder-flip (λ x y. is_before (key x) (key y)) (before_order key)
