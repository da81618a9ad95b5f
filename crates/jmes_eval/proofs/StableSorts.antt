-- What a stable sort gives is the list in order.
use Rattle.std.proofs.Common.{◌≡◌, zero, suc, ◌+◌, Bool, true, false, not, ◌&&◌, List, [], ◌∷◌, map, get_or, refl, sym, ap, ◌∙◌, subst, arith}
use Rattle.std.specs.Prelude.{if◌then◌else◌, filter}
use Rattle.std.specs.Cmp.{IsStrictWeakOrder}
use Rattle.std.specs.List.{AllByRecursion}
use Rattle.std.specs.List.Sorted.{IsSortedBy, IsStableBy, ties}
use Rattle.std.proofs.lemmas.Bool.{false≢true}
use Rattle.std.proofs.lemmas.List.Sorted.{sorted_far}
use Rattle.std.proofs.lemmas.List.Elements.{All-from_get_or, recursion_from_All}
use Rattle.jmes_eval.specs.Orders.{placed, sorted}

module _ {A : Type 0} (lt : A → A → Bool) (o : IsStrictWeakOrder lt) where
  abbrev NoneBefore : A → List A → Type 0
  NoneBefore x ys = AllByRecursion (λ y. lt y x ≡ false) ys

  -- no element is before an earlier one
  abbrev Up : List A → Type 0
  Up [] = Unit {0}
  Up (x ∷ xs) = NoneBefore x xs × Up xs

  irreflexive : (x : A) → lt x x ≡ false
  irreflexive x = by_cases (lt x x) refl
    where
      by_cases : (b : Bool) → lt x x ≡ b → lt x x ≡ false
      by_cases true e = o.one_way x x e
      by_cases false e = e

  Up-from : (xs : List A) → IsSortedBy lt xs → Up xs
  Up-from [] up = tt
  Up-from (x ∷ xs) up = (
    recursion_from_All (λ y. lt y x ≡ false) xs (All-from_get_or (λ y. lt y x ≡ false) xs x (λ k below. sorted_far lt o (x ∷ xs) up zero (suc k) x (omega arith) (omega arith))),
    Up-from xs (λ k d low high.
        let e : suc k + 1 ≡ suc (k + 1) = omega arith in
        subst (λ i. lt (get_or (x ∷ xs) i d) (get_or xs k d) ≡ false) e (up (suc k) d (omega arith) (omega arith))),
  )

  none_if : (b : Bool) (z x y : A) (ys : List A) → lt x z ≡ false → NoneBefore z (y ∷ ys) → NoneBefore z (placed lt x ys) → NoneBefore z (if b then y ∷ placed lt x ys else x ∷ y ∷ ys)
  none_if true z x y ys first rest more = (rest.0, more)
  none_if false z x y ys first rest more = (first, rest)

  NoneBefore-placed : (z x : A) (ys : List A) → lt x z ≡ false → NoneBefore z ys → NoneBefore z (placed lt x ys)
  NoneBefore-placed z x [] first rest = (first, tt)
  NoneBefore-placed z x (y ∷ ys) first rest = none_if (lt y x) z x y ys first rest (NoneBefore-placed z x ys first rest.1)

  NoneBefore-chain : (x y : A) (zs : List A) → lt y x ≡ false → NoneBefore y zs → NoneBefore x zs
  NoneBefore-chain x y [] e h = tt
  NoneBefore-chain x y (z ∷ zs) e h = (o.chain z y x h.0 e, NoneBefore-chain x y zs e h.1)

  up_if : (b : Bool) (x y : A) (ys : List A) → lt y x ≡ b → Up (y ∷ ys) → Up (placed lt x ys) → Up (if b then y ∷ placed lt x ys else x ∷ y ∷ ys)
  up_if true x y ys e up more = (NoneBefore-placed y x ys (o.one_way y x e) up.0, more)
  up_if false x y ys e up more = ((e, NoneBefore-chain x y ys e up.0), up)

  Up-placed : (x : A) (ys : List A) → Up ys → Up (placed lt x ys)
  Up-placed x [] up = (tt, tt)
  Up-placed x (y ∷ ys) up = up_if (lt y x) x y ys refl up (Up-placed x ys up.1)

  Up-sorted : (xs : List A) → Up (sorted lt xs)
  Up-sorted [] = tt
  Up-sorted (x ∷ xs) = Up-placed x (sorted lt xs) (Up-sorted xs)

  -- Elements that tie stay as they stood.

  abbrev put_if : Bool → A → List A → List A
  put_if b x xs = if b then x ∷ xs else xs

  exchange : (a b : Bool) (x y : A) (r : List A) → (a ≡ true → b ≡ true → ⊥) → put_if a y (put_if b x r) ≡ put_if b x (put_if a y r)
  exchange true true x y r never = absurd (never refl refl)
  exchange true false x y r never = refl
  exchange false true x y r never = refl
  exchange false false x y r never = refl

  tie_left : (a b : Bool) → (not a && not b) ≡ true → a ≡ false
  tie_left false b e = refl
  tie_left true b e = absurd (false≢true e)

  tie_right : (a b : Bool) → (not a && not b) ≡ true → b ≡ false
  tie_right false false e = refl
  tie_right false true e = absurd (false≢true e)
  tie_right true b e = absurd (false≢true e)

  never_both : (z x y : A) → lt y x ≡ true → ties lt z y ≡ true → ties lt z x ≡ true → ⊥
  never_both z x y e ty tx =
      let f = o.chain y z x (tie_right (lt z y) (lt y z) ty) (tie_left (lt z x) (lt x z) tx) in
      false≢true (sym f ∙ e)

  filter_if : (b : Bool) (z x y : A) (ys : List A) → lt y x ≡ b → filter (ties lt z) (placed lt x ys) ≡ filter (ties lt z) (x ∷ ys) → filter (ties lt z) (if b then y ∷ placed lt x ys else x ∷ y ∷ ys) ≡ filter (ties lt z) (x ∷ y ∷ ys)
  filter_if true z x y ys e more = ap (λ r. put_if (ties lt z y) y r) more ∙ exchange (ties lt z y) (ties lt z x) x y (filter (ties lt z) ys) (never_both z x y e)
  filter_if false z x y ys e more = refl

  filter-placed : (z x : A) (ys : List A) → filter (ties lt z) (placed lt x ys) ≡ filter (ties lt z) (x ∷ ys)
  filter-placed z x [] = refl
  filter-placed z x (y ∷ ys) = filter_if (lt y x) z x y ys refl (filter-placed z x ys)

  filter-sorted : (z : A) (xs : List A) → filter (ties lt z) (sorted lt xs) ≡ filter (ties lt z) xs
  filter-sorted z [] = refl
  filter-sorted z (x ∷ xs) = filter-placed z x (sorted lt xs) ∙ ap (λ r. put_if (ties lt z x) x r) (filter-sorted z xs)

  -- One list is in order and has the same ties.

  all_if : (P : A → Type 0) (b : Bool) (x : A) (r : List A) → P x → AllByRecursion P r → AllByRecursion P (put_if b x r)
  all_if P true x r here more = (here, more)
  all_if P false x r here more = more

  All-filter : (P : A → Type 0) (p : A → Bool) (xs : List A) → AllByRecursion P xs → AllByRecursion P (filter p xs)
  All-filter P p [] h = tt
  All-filter P p (x ∷ xs) h = all_if P (p x) x (filter p xs) h.0 (All-filter P p xs h.1)

  tie_of : (a b : Bool) → a ≡ false → b ≡ false → (not a && not b) ≡ true
  tie_of false false e f = refl
  tie_of false true e f = absurd (false≢true (sym f))
  tie_of true b e f = absurd (false≢true (sym e))

  ties_itself : (x : A) → ties lt x x ≡ true
  ties_itself x = tie_of (lt x x) (lt x x) (irreflexive x) (irreflexive x)

  abbrev SameTies : List A → List A → Type 0
  SameTies ys zs = (x : A) → filter (ties lt x) ys ≡ filter (ties lt x) zs

  first_of_ties : (y : A) (ys : List A) → filter (ties lt y) (y ∷ ys) ≡ y ∷ filter (ties lt y) ys
  first_of_ties y ys = ap (λ b. put_if b y (filter (ties lt y) ys)) (ties_itself y)

  not_before : (y z : A) (ys zs : List A) → Up (z ∷ zs) → SameTies (y ∷ ys) (z ∷ zs) → lt y z ≡ false
  not_before y z ys zs up same =
      let all : AllByRecursion (λ w. lt w z ≡ false) (z ∷ zs) = (irreflexive z, up.0) in
      let kept = All-filter (λ w. lt w z ≡ false) (ties lt y) (z ∷ zs) all in
      (subst (AllByRecursion (λ w. lt w z ≡ false)) (sym (same y) ∙ first_of_ties y ys) kept).0

  head_same : (y z : A) (ys zs : List A) → y ∷ ys ≡ z ∷ zs → y ≡ z
  head_same y z ys zs e = cc

  tail_same : (y z : A) (ys zs : List A) → y ∷ ys ≡ z ∷ zs → ys ≡ zs
  tail_same y z ys zs e = cc

  drop_if : (b : Bool) (x : A) (r s : List A) → put_if b x r ≡ put_if b x s → r ≡ s
  drop_if true x r s e = tail_same x x r s e
  drop_if false x r s e = e

  heads : (y z : A) (ys zs : List A) → Up (y ∷ ys) → Up (z ∷ zs) → SameTies (y ∷ ys) (z ∷ zs) → y ≡ z
  heads y z ys zs up up' same =
      let tie : ties lt y z ≡ true = tie_of (lt y z) (lt z y) (not_before y z ys zs up' same) (not_before z y zs ys up (λ x. sym (same x))) in
      head_same y z (filter (ties lt y) ys) (filter (ties lt y) zs)
      (sym (first_of_ties y ys) ∙ same y ∙ ap (λ b. put_if b z (filter (ties lt y) zs)) tie)

  unique : (ys zs : List A) → Up ys → Up zs → SameTies ys zs → ys ≡ zs
  unique [] [] up up' same = refl
  unique [] (z ∷ zs) up up' same = let e = same z ∙ first_of_ties z zs in absurd cc
  unique (y ∷ ys) [] up up' same = let e = sym (same y) ∙ first_of_ties y ys in absurd cc
  unique (y ∷ ys) (z ∷ zs) up up' same =
      let e = heads y z ys zs up up' same in
      let rest = unique ys zs up.1 up'.1 (λ x. drop_if (ties lt x z) z (filter (ties lt x) ys) (filter (ties lt x) zs) (ap (λ w. put_if (ties lt x w) w (filter (ties lt x) ys)) (sym e) ∙ same x)) in
      ap (λ w. w ∷ ys) e ∙ ap (λ r. z ∷ r) rest

  -- a stable sort of a list gives it in order
  pub sorted-is : (xs ys : List A) → IsSortedBy lt ys → IsStableBy lt xs ys → ys ≡ sorted lt xs
  sorted-is xs ys up stable = unique ys (sorted lt xs) (Up-from ys up) (Up-sorted xs) (λ x. stable x ∙ sym (filter-sorted x xs))

-- the views of a list in order
map_if : {A B : Type 0} (b : Bool) (lt : B → B → Bool) (f : A → B) (x y : A) (ys : List A) → map f (placed (λ a b. lt (f a) (f b)) x ys) ≡ placed lt (f x) (map f ys)
    → map f (if b then y ∷ placed (λ a b. lt (f a) (f b)) x ys else x ∷ y ∷ ys) ≡ (if b then f y ∷ placed lt (f x) (map f ys) else f x ∷ f y ∷ map f ys)
map_if true lt f x y ys more = ap (λ r. f y ∷ r) more
map_if false lt f x y ys more = refl

placed-map : {A B : Type 0} (lt : B → B → Bool) (f : A → B) (x : A) (ys : List A) → map f (placed (λ a b. lt (f a) (f b)) x ys) ≡ placed lt (f x) (map f ys)
placed-map lt f x [] = refl
placed-map lt f x (y ∷ ys) = map_if (lt (f y) (f x)) lt f x y ys (placed-map lt f x ys)

pub sorted-map : {A B : Type 0} (lt : B → B → Bool) (f : A → B) (xs : List A) → map f (sorted (λ a b. lt (f a) (f b)) xs) ≡ sorted lt (map f xs)
sorted-map lt f [] = refl
sorted-map lt f (x ∷ xs) = placed-map lt f x (sorted (λ a b. lt (f a) (f b)) xs) ∙ ap (placed lt (f x)) (sorted-map lt f xs)
