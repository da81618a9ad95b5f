-- Entries in another order: with keys that are distinct they have the same values, and tell of the same unknown member.
use Rattle.std.proofs.Common.{◌≡◌, ℕ, Bool, true, false, if◌then◌else◌, List, [], ◌∷◌, filter, length, Option, None, Some, refl, sym, ap, ◌∙◌, arith}
use Rattle.std.specs.Prelude.{bytes_eq, IsPermutation, option_and_then}
use Rattle.std.specs.Bool.{Decides}
use Rattle.std.specs.List.{All}
use Rattle.std.proofs.lemmas.List.Elements.{All-cons, All-head, All-nil, All-tail}
use Rattle.std.proofs.lemmas.List.Sorted.{All-permutation, IsPermutation-sym, sum_by-IsPermutation}
use Rattle.std.proofs.lemmas.List.Sums.{length-filter}
use Rattle.std.proofs.lemmas.Slice.Eq.{bytes_eq-Decides}
use Rattle.service_model.specs.declared.shape.Shape.{Shape}
use Rattle.texts.specs.declared.pairs.Pair.{Pair}
use Rattle.texts.specs.Keys.{keys, value_at, IsDistinct, IsNew}
use Rattle.resp_parser.specs.Kept.{is_counted, only_key, unknown_tag, unless_sent}

same-key : (k : List ℕ) → bytes_eq k k ≡ true
same-key k = (bytes_eq-Decides k k).1 refl

module _ {X : Type 0} where
  -- what the entries hold at the key of this one
  abbrev AtKey : List (Pair X) → Pair X → Type 0
  AtKey ps p = value_at p.key ps ≡ Some p.value

  later : (p : Pair X) (qs : List (Pair X)) (q : Pair X) → (p.key ≡ q.key → ⊥) → AtKey qs q → AtKey (p ∷ qs) q
  later p qs q apart at =
      elim (bytes_eq p.key q.key) as (λ b. Decides b (p.key ≡ q.key) → (if b then Some p.value else value_at q.key qs) ≡ Some q.value)
      [ true ↦ λ d. absurd (apart (d.0 refl)) | false ↦ λ d. at ] (bytes_eq-Decides p.key q.key)

  all-later : (p : Pair X) (qs rs : List (Pair X)) → IsNew p.key (keys rs) → All (AtKey qs) rs → All (AtKey (p ∷ qs)) rs
  all-later p qs [] new all = All-nil (AtKey (p ∷ qs))
  all-later p qs (r ∷ rs) new all =
      All-cons (AtKey (p ∷ qs)) r rs (later p qs r new.0 (All-head (AtKey qs) r rs all)) (all-later p qs rs new.1 (All-tail (AtKey qs) r rs all))

  own : (ps : List (Pair X)) → IsDistinct (keys ps) → All (AtKey ps) ps
  own [] distinct = All-nil (AtKey [])
  own (p ∷ ps) distinct =
      All-cons (AtKey (p ∷ ps)) p ps (ap (λ b. if b then Some p.value else value_at p.key ps) (same-key p.key))
      (all-later p ps ps distinct.0 (own ps distinct.1))

  -- entries that stand in others, at a key that they have
  held : (k : List ℕ) (ps qs : List (Pair X)) (v : X) → All (AtKey ps) qs → value_at k qs ≡ Some v → value_at k ps ≡ Some v
  held k ps [] v all e = absurd (cc)
  held k ps (q ∷ qs) v all e =
      elim (bytes_eq q.key k) as (λ b. Decides b (q.key ≡ k) → (if b then Some q.value else value_at k qs) ≡ Some v → value_at k ps ≡ Some v) [
        | true ↦ (λ d e. ap (λ j. value_at j ps) (sym (d.0 refl)) ∙ All-head (AtKey ps) q qs all ∙ e)
        | false ↦ (λ d e. held k ps qs v (All-tail (AtKey ps) q qs all) e)
      ] (bytes_eq-Decides q.key k) e

  abbrev HasOther : List ℕ → Pair X → Type 0
  HasOther k p = bytes_eq p.key k ≡ false

  none-has : (k : List ℕ) (ps : List (Pair X)) → value_at k ps ≡ None → All (HasOther k) ps
  none-has k [] e = All-nil (HasOther k)
  none-has k (p ∷ ps) e =
      elim (bytes_eq p.key k) as (λ b. bytes_eq p.key k ≡ b → (if b then Some p.value else value_at k ps) ≡ None → All (HasOther k) (p ∷ ps)) [
        | true ↦ (λ same e. absurd (cc))
        | false ↦ (λ same e. All-cons (HasOther k) p ps same (none-has k ps e))
      ] refl e

  has-none : (k : List ℕ) (ps : List (Pair X)) → All (HasOther k) ps → value_at k ps ≡ None
  has-none k [] all = refl
  has-none k (p ∷ ps) all =
      ap (λ b. if b then Some p.value else value_at k ps) (All-head (HasOther k) p ps all) ∙ has-none k ps (All-tail (HasOther k) p ps all)

  pub at-permuted : (k : List ℕ) (ps qs : List (Pair X)) → IsDistinct (keys ps) → IsPermutation ps qs → value_at k ps ≡ value_at k qs
  at-permuted k ps qs distinct permuted = by (value_at k qs) refl
    where
      by : (o : Option X) → value_at k qs ≡ o → value_at k ps ≡ o
      by None e = has-none k ps (All-permutation (HasOther k) qs ps (IsPermutation-sym ps qs permuted) (none-has k qs e))
      by (Some v) e = held k ps qs v (All-permutation (AtKey ps) ps qs permuted (own ps distinct)) e

module _ {X : Type 0} (test : X → Bool) where
  -- an element that passes is this one
  abbrev IsOnly : X → X → Type 0
  IsOnly x y = test y ≡ true → y ≡ x

  fails : (xs : List X) (x : X) → filter test xs ≡ [] → All (IsOnly x) xs
  fails [] x e = All-nil (IsOnly x)
  fails (y ∷ ys) x e =
      elim (test y) as (λ b. test y ≡ b → (if b then y ∷ filter test ys else filter test ys) ≡ [] → All (IsOnly x) (y ∷ ys)) [
        | true ↦ (λ same e. absurd (cc))
        | false ↦ (λ same e. All-cons (IsOnly x) y ys (λ passes. absurd (cc)) (fails ys x e))
      ] refl e

  only-one : (xs : List X) (x : X) → filter test xs ≡ x ∷ [] → All (IsOnly x) xs
  only-one [] x e = absurd (cc)
  only-one (y ∷ ys) x e =
      elim (test y) as (λ b. test y ≡ b → (if b then y ∷ filter test ys else filter test ys) ≡ x ∷ [] → All (IsOnly x) (y ∷ ys)) [
        | true ↦ (λ same e. All-cons (IsOnly x) y ys (λ passes. cc) (fails ys x cc))
        | false ↦ (λ same e. All-cons (IsOnly x) y ys (λ passes. absurd (cc)) (only-one ys x e))
      ] refl e

  first-is : (ys : List X) (x y : X) (zs : List X) → All (IsOnly x) ys → filter test ys ≡ y ∷ zs → y ≡ x
  first-is [] x y zs all e = absurd (cc)
  first-is (w ∷ ws) x y zs all e =
      elim (test w) as (λ b. test w ≡ b → (if b then w ∷ filter test ws else filter test ws) ≡ y ∷ zs → y ≡ x) [
        | true ↦ (λ same e. let only = All-head (IsOnly x) w ws all same in cc)
        | false ↦ (λ same e. first-is ws x y zs (All-tail (IsOnly x) w ws all) e)
      ] refl e

  pub count-permuted : (xs ys : List X) → IsPermutation xs ys → length (filter test xs) ≡ length (filter test ys)
  count-permuted xs ys permuted =
      length-filter test xs ∙ sym (sum_by-IsPermutation (λ x. if test x then 1 else 0) xs ys permuted) ∙ sym (length-filter test ys)

  pub one-permuted : (xs ys : List X) (x y : X) → IsPermutation xs ys → filter test xs ≡ x ∷ [] → filter test ys ≡ y ∷ [] → y ≡ x
  one-permuted xs ys x y permuted e f = first-is ys x y [] (All-permutation (IsOnly x) xs ys permuted (only-one xs x e)) f

module _ {X : Type 0} (test : Pair X → Bool) (ps qs : List (Pair X)) (permuted : IsPermutation ps qs) where
  by-counts : (xs ys : List (Pair X)) → filter test ps ≡ xs → filter test qs ≡ ys → length xs ≡ length ys → only_key xs ≡ only_key ys
  by-counts [] [] e f same = refl
  by-counts [] (y ∷ ys) e f same = absurd (omega arith)
  by-counts (x ∷ xs) [] e f same = absurd (omega arith)
  by-counts (x ∷ []) (y ∷ []) e f same = ap (λ p. Some p.key) (sym (one-permuted test ps qs x y permuted e f))
  by-counts (x ∷ []) (y ∷ z ∷ zs) e f same = absurd (omega arith)
  by-counts (x ∷ w ∷ ws) (y ∷ []) e f same = absurd (omega arith)
  by-counts (x ∷ w ∷ ws) (y ∷ z ∷ zs) e f same = refl

  pub only-permuted : only_key (filter test ps) ≡ only_key (filter test qs)
  only-permuted = by-counts (filter test ps) (filter test qs) refl refl (count-permuted test ps qs permuted)

pub tag-permuted : {X : Type 0} (is_nothing : X → Bool) (shape : Shape) (ps qs : List (Pair X)) → IsPermutation ps qs
    → unknown_tag is_nothing shape ps ≡ unknown_tag is_nothing shape qs
tag-permuted is_nothing shape ps qs permuted =
    ap (λ o. if shape.is_union then option_and_then (unless_sent shape.members) o else None) (only-permuted (is_counted is_nothing) ps qs permuted)
