-- Sorted lists with the same elements are the same.
use Rattle.std.proofs.Common.{◌≡◌, ℕ, zero, suc, ◌⊎◌, inl, inr, false, cond, List, [], ◌∷◌, refl, sym, ap, ◌∙◌, subst, arith}
use Rattle.std.specs.Prelude.{All, AllPairs, Contains, sum_by, ◌↔◌, IsPermutation, IsSorted}
use Rattle.std.specs.Ordering.{ordering_reverse, ordering_then, is_lt, is_eq}
use Rattle.std.specs.declared.cmp.Ordering.{Ordering}
use Rattle.std.specs.declared.cmp.Ordering.TheVariants.{Less, Equal, Greater}
use Rattle.std.specs.Cmp.{IsTotalOrder, then_total, on_total}
use Rattle.std.specs.Cmp.Lexicographic.{nat_list_cmp_total}
use Rattle.std.specs.FinMap.{IsAntisymmetric, slice_cmp-IsAntisymmetric, nat_cmp-IsAntisymmetric}
use Rattle.std.proofs.lemmas.Bool.{false≢true}
use Rattle.std.proofs.lemmas.List.Elements.{All-head, All-tail, All-cons, All-contains}
use Rattle.std.proofs.lemmas.List.Sorted.{sorted_far, ranks_by, IsPermutation-sym, IsPermutation-trans, sum_by-IsPermutation}
use Rattle.std.proofs.lemmas.List.Sums.{sum_by-cons}
use Rattle.texts.specs.Order.{IsBefore}
use Rattle.texts.specs.Order.{text_cmp}
use Rattle.sigv4.specs.Parameters.{parameter_cmp, IsSortedQuery}

heads : {X : Type 0} (P : X → X → Type 0) (x : X) (xs : List X) → AllPairs P (x ∷ xs) → All (P x) xs
heads P x xs far k d within = far 0 (suc k) d (omega arith) (omega arith)

tails : {X : Type 0} (P : X → X → Type 0) (x : X) (xs : List X) → AllPairs P (x ∷ xs) → AllPairs P xs
tails P x xs far i j d below within = far (suc i) (suc j) d (omega arith) (omega arith)

-- ---- by an order

module _ {X : Type 0} (R : X → X → Ordering) (o : IsTotalOrder R) where
  tied_alone : (r : Ordering) → r ≡ ordering_reverse r → r ≡ Equal
  tied_alone Less e = cc
  tied_alone Equal e = refl
  tied_alone Greater e = cc

  pub itself : (x : X) → R x x ≡ Equal
  itself x = tied_alone (R x x) (o.antisymm x x)

  no_tie : (r : Ordering) → (r ≡ Equal → ⊥) → is_eq r ≡ false
  no_tie Less h = refl
  no_tie Equal h = absurd (h refl)
  no_tie Greater h = refl

  -- the second doesn't come before the first
  abbrev NotAfter : X → X → Type 0
  NotAfter a b = is_lt (R b a) ≡ false

  abbrev count_at : X → X → ℕ
  count_at x z = cond (is_eq (R x z)) 1 0

  -- what comes before an element differs from all that don't come before it
  differs : (x y z : X) → R x y ≡ Less → NotAfter y z → is_eq (R x z) ≡ false
  differs x y z less after =
      no_tie (R x z) (λ e. false≢true (sym after ∙ ap is_lt (sym (o.congr x z y e) ∙ less)))

  none_tied : (x : X) (zs : List X) → All (λ z. is_eq (R x z) ≡ false) zs → sum_by (count_at x) zs ≡ 0
  none_tied x [] all = refl
  none_tied x (z ∷ zs) all =
      let first : count_at x z ≡ 0 = ap (λ t. cond t 1 0) (All-head (λ z. is_eq (R x z) ≡ false) z zs all) in
      let rest = none_tied x zs (All-tail (λ z. is_eq (R x z) ≡ false) z zs all) in
      let sum = sum_by-cons (count_at x) z zs in
      omega arith

  apart : (x : X) (xs : List X) (y : X) (ys : List X) → R x y ≡ Less → All (NotAfter y) ys
      → sum_by (count_at x) (x ∷ xs) ≡ sum_by (count_at x) (y ∷ ys) → ⊥
  apart x xs y ys less after same =
      let here : count_at x x ≡ 1 = ap (λ r. cond (is_eq r) 1 0) (itself x) in
      let sum = sum_by-cons (count_at x) x xs in
      let other : is_eq (R x y) ≡ false = ap is_eq less in
      let none = none_tied x (y ∷ ys) (All-cons (λ z. is_eq (R x z) ≡ false) y ys other (λ k d h. differs x y _ less (after k d h))) in
      omega arith

  same_step : IsAntisymmetric R → (x : X) (xs : List X) (y : X) (ys : List X) → AllPairs NotAfter (x ∷ xs) → AllPairs NotAfter (y ∷ ys)
      → ((f : X → ℕ) → sum_by f (x ∷ xs) ≡ sum_by f (y ∷ ys)) → (r : Ordering) → R x y ≡ r
      → (((f : X → ℕ) → sum_by f xs ≡ sum_by f ys) → xs ≡ ys) → x ∷ xs ≡ y ∷ ys
  same_step exact x xs y ys farx fary sums Less e next = absurd (apart x xs y ys e (heads NotAfter y ys fary) (sums (count_at x)))
  same_step exact x xs y ys farx fary sums Greater e next =
      absurd (apart y ys x xs (o.antisymm y x ∙ ap ordering_reverse e) (heads NotAfter x xs farx) (sym (sums (count_at y))))
  same_step exact x xs y ys farx fary sums Equal e next =
      let first = exact x y e in
      let rest = next (λ f.
      let whole = sums f in
      let one : f x ≡ f y = ap f first in
      let left = sum_by-cons f x xs in
      let right = sum_by-cons f y ys in
      omega arith) in
      λ i. first i ∷ rest i

  same_far : IsAntisymmetric R → (xs ys : List X) → AllPairs NotAfter xs → AllPairs NotAfter ys
      → ((f : X → ℕ) → sum_by f xs ≡ sum_by f ys) → xs ≡ ys
  same_far exact [] [] farx fary sums = refl
  same_far exact [] (y ∷ ys) farx fary sums =
      let one = sums (λ _. 1) in let sum = sum_by-cons (λ _. 1) y ys in absurd (omega arith)
  same_far exact (x ∷ xs) [] farx fary sums =
      let one = sums (λ _. 1) in let sum = sum_by-cons (λ _. 1) x xs in absurd (omega arith)
  same_far exact (x ∷ xs) (y ∷ ys) farx fary sums =
      same_step exact x xs y ys farx fary sums (R x y) refl (same_far exact xs ys (tails NotAfter x xs farx) (tails NotAfter y ys fary))

  far : (xs : List X) → IsSorted R xs → AllPairs NotAfter xs
  far xs sorted i j d below within = sorted_far _ (ranks_by o (λ a. a)) xs sorted i j d (omega arith) within

  -- sorted permutations are the same
  pub same_sorted : IsAntisymmetric R → (xs ys : List X) → IsSorted R xs → IsSorted R ys → IsPermutation xs ys → xs ≡ ys
  same_sorted exact xs ys sortedx sortedy moved =
      same_far exact xs ys (far xs sortedx) (far ys sortedy) (λ f. sym (sum_by-IsPermutation f xs ys moved))

-- ---- texts and pairs of texts

text_total : IsTotalOrder text_cmp
text_total = nat_list_cmp_total

text_exact : IsAntisymmetric text_cmp
text_exact a b e = slice_cmp-IsAntisymmetric nat_cmp-IsAntisymmetric a b e

parameter_total : IsTotalOrder parameter_cmp
parameter_total =
    then_total (on_total (λ (p : List ℕ × List ℕ). p.0) text_total) (on_total (λ (p : List ℕ × List ℕ). p.1) text_total)

both_tied : (a b : Ordering) → ordering_then a b ≡ Equal → (a ≡ Equal) × (b ≡ Equal)
both_tied Less b e = cc
both_tied Equal b e = (refl, e)
both_tied Greater b e = cc

parameter_exact : IsAntisymmetric parameter_cmp
parameter_exact p q e =
    let parts = both_tied (text_cmp p.0 q.0) (text_cmp p.1 q.1) e in
    let name = text_exact p.0 q.0 parts.0 in
    let value = text_exact p.1 q.1 parts.1 in
    λ i. (name i, value i)

-- a query has one sorted form
pub same_query : (query a b : List (List ℕ × List ℕ)) → IsSortedQuery query a → IsSortedQuery query b → a ≡ b
same_query query a b x y =
    same_sorted parameter_cmp parameter_total parameter_exact a b x.ascending y.ascending
    (IsPermutation-trans a query b (IsPermutation-sym query a x.permutation) y.permutation)

-- ---- names

contains_cases : {X : Type 0} (x : X) (xs : List X) (z : X) → Contains (x ∷ xs) z → (x ≡ z) ⊎ Contains xs z
contains_cases x xs z (zero, within, is) = inl is
contains_cases x xs z (suc k, within, is) = inr (k, omega arith, is)

first_in : {X : Type 0} (x : X) (xs : List X) → Contains (x ∷ xs) x
first_in x xs = (0, omega arith, refl)

later_in : {X : Type 0} (x : X) (xs : List X) (z : X) → Contains xs z → Contains (x ∷ xs) z
later_in x xs z h = let within = h.1 in (suc h.0, omega arith, h.2)

not_before_itself : (a : List ℕ) → IsBefore a a → ⊥
not_before_itself a h = let tied = itself text_cmp text_total a in cc

tail_contains : (x : List ℕ) (xs : List (List ℕ)) (y : List ℕ) (ys : List (List ℕ)) → AllPairs IsBefore (x ∷ xs) → x ≡ y
    → ((z : List ℕ) → Contains (x ∷ xs) z → Contains (y ∷ ys) z) → (z : List ℕ) → Contains xs z → Contains ys z
tail_contains x xs y ys farx same within z h =
    elim (contains_cases y ys z (within z (later_in x xs z h))) [
      | inl e ↦ absurd (not_before_itself x (subst (IsBefore x) (sym (same ∙ e)) (All-contains (IsBefore x) xs z (heads IsBefore x xs farx) h)))
      | inr m ↦ m
    ]

-- names in ascending order that are the same names are the same list
pub same_names : (xs ys : List (List ℕ)) → AllPairs IsBefore xs → AllPairs IsBefore ys → ((z : List ℕ) → Contains xs z ↔ Contains ys z) → xs ≡ ys
same_names [] [] farx fary both = refl
same_names [] (y ∷ ys) farx fary both = let none = ((both y).1 (first_in y ys)).1 in absurd (omega arith)
same_names (x ∷ xs) [] farx fary both = let none = ((both x).0 (first_in x xs)).1 in absurd (omega arith)
same_names (x ∷ xs) (y ∷ ys) farx fary both =
    let first : x ≡ y =
    elim (contains_cases y ys x ((both x).0 (first_in x xs))) [
      | inl e ↦ sym e
      | inr m ↦ elim (contains_cases x xs y ((both y).1 (first_in y ys))) [
        | inl e ↦ e
        | inr n ↦ absurd (not_before_itself x (text_total.trans x y x
            (All-contains (IsBefore x) xs y (heads IsBefore x xs farx) n) (All-contains (IsBefore y) ys x (heads IsBefore y ys fary) m)))
      ]
    ] in
    let rest = same_names xs ys (tails IsBefore x xs farx) (tails IsBefore y ys fary) (λ z. (
      tail_contains x xs y ys farx first (λ w. (both w).0) z,
      tail_contains y ys x xs fary (sym first) (λ w. (both w).1) z,
    )) in
    λ i. first i ∷ rest i
