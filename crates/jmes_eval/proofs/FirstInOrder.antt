-- The first of a list in order, found in one pass from its end.
use Rattle.std.proofs.Common.{◌≡◌, ℕ, ◌+◌, ◌-◌, ◌<◌, ◌≤◌, Bool, true, false, if◌then◌else◌, List, [], ◌∷◌, map, length, get_or, drop, Option, Some, refl, sym, ap, ◌∙◌, arith}
use Rattle.std.proofs.lemmas.List.{drop_more}
use Rattle.jmes_eval.specs.Orders.{placed, sorted, first_of, picked}

first_of-placed : {A : Type 0} (before : A → A → Bool) (x : A) (ys : List A) → first_of (placed before x ys) ≡ Some (picked before x (first_of ys))
first_of-placed before x [] = refl
first_of-placed before x (y ∷ ys) =
    elim (before y x) as (λ b. first_of (if b then y ∷ placed before x ys else x ∷ y ∷ ys) ≡ Some (if b then y else x)) [ true ↦ refl | false ↦ refl ]

first_from : {A : Type 0} (before : A → A → Bool) (xs : List A) (i : ℕ) (x : A) → i < length xs
    → first_of (sorted before (drop i xs)) ≡ Some (picked before (get_or xs i x) (first_of (sorted before (drop (i + 1) xs))))
first_from before xs i x less =
    ap (λ ys. first_of (sorted before ys)) (drop_more xs i x less) ∙ first_of-placed before (get_or xs i x) (sorted before (drop (i + 1) xs))

-- one more in front
pub first_more : {A : Type 0} (before : A → A → Bool) (xs : List A) (i : ℕ) (x : A) (found : Option A) (r : A) → 0 < i → i ≤ length xs → x ≡ get_or xs (i - 1) x → found ≡ first_of (sorted before (drop i xs)) → r ≡ picked before x found
    → Some r ≡ first_of (sorted before (drop (i - 1) xs))
first_more before xs i x found r some within at first is =
    let next : i - 1 + 1 ≡ i = omega arith in
    ap Some (is ∙ ap (picked before x) first)
    ∙ ap (λ k. Some (picked before x (first_of (sorted before (drop k xs))))) (sym next)
    ∙ ap (λ y. Some (picked before y (first_of (sorted before (drop (i - 1 + 1) xs))))) at
    ∙ sym (first_from before xs (i - 1) x (omega arith))

-- the same of what is seen of the elements
pub first_more_seen : {A B : Type 0} (view : A → B) (before : B → B → Bool) (xs : List A) (i : ℕ) (x : A) (found : Option B) (r : B) → 0 < i → i ≤ length xs → x ≡ get_or xs (i - 1) x → found ≡ first_of (sorted before (map view (drop i xs))) → r ≡ picked before (view x) found
    → Some r ≡ first_of (sorted before (map view (drop (i - 1) xs)))
first_more_seen view before xs i x found r some within at first is =
    let next : i - 1 + 1 ≡ i = omega arith in
    ap Some (is ∙ ap (picked before (view x)) first)
    ∙ ap (λ k. Some (picked before (view x) (first_of (sorted before (map view (drop k xs)))))) (sym next)
    ∙ ap (λ y. Some (picked before (view y) (first_of (sorted before (map view (drop (i - 1 + 1) xs)))))) at
    ∙ sym (first_of-placed before (view (get_or xs (i - 1) x)) (sorted before (map view (drop (i - 1 + 1) xs))))
    ∙ ap (λ ys. first_of (sorted before (map view ys))) (sym (drop_more xs (i - 1) x (omega arith)))
