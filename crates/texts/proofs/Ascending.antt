-- Texts in their order, each once.
use Rattle.std.proofs.Common.{◌≡◌, ℕ, ◌+◌, ◌-◌, ◌<◌, ◌≤◌, ◌⊎◌, inl, inr, ⊎_elim, List, [], ◌∷◌, length, get_or, take, drop, sym, ap, ◌∙◌, subst, arith}
use Rattle.std.specs.Prelude.{Contains, All, AllPairs, insert}
use Rattle.std.specs.Ordering.{ordering_reverse}
use Rattle.std.specs.declared.cmp.Ordering.TheVariants.{Equal, Greater}
use Rattle.std.specs.Cmp.Lexicographic.{nat_list_cmp_total}
use Rattle.std.specs.FinMap.{slice_cmp-IsAntisymmetric, nat_cmp-IsAntisymmetric}
use Rattle.std.proofs.lemmas.Bool.{cases_lt, cases_eq}
use Rattle.std.proofs.lemmas.List.{take-append-drop, get_or-drop, get_or-take, length-take, length-drop, get_or_default}
use Rattle.std.proofs.lemmas.List.Edits.{length-insert, get_or-insert_below, get_or-insert_at, get_or-insert_above}
use Rattle.std.proofs.lemmas.List.Elements.{Contains-append_left, Contains-append_right, Contains-append_cases, Contains-push, Contains-push_cases}
use Rattle.texts.specs.Order.{text_cmp, IsBefore}

pub same_text : (a b : List ℕ) → text_cmp a b ≡ Equal → a ≡ b
same_text a b e = slice_cmp-IsAntisymmetric nat_cmp-IsAntisymmetric a b e

pub before_from_greater : (a b : List ℕ) → text_cmp a b ≡ Greater → IsBefore b a
before_from_greater a b e = nat_list_cmp_total.antisymm b a ∙ ap ordering_reverse e

before_trans : (a b c : List ℕ) → IsBefore a b → IsBefore b c → IsBefore a c
before_trans a b c p q = nat_list_cmp_total.trans a b c p q

-- what comes before one of the names comes before all from it on
pub all_from : (names : List (List ℕ)) (name other : List ℕ) (at : ℕ) → AllPairs IsBefore names → at < length names → other ≡ get_or names at other
    → IsBefore name other → All (IsBefore name) (drop at names)
all_from names name other at ascending within is before k d lt =
    let inside : at + k < length names = omega (arith, length-drop at names) in
    let here : get_or names at d ≡ other = get_or_default names at d other within ∙ sym is in
    let first : IsBefore name (get_or names at d) = subst (IsBefore name) (sym here) before in
    subst (IsBefore name) (sym (get_or-drop at names k d))
    (⊎_elim (λ (z : k ≡ 0). let same : at ≡ at + k = omega arith in subst (λ i. IsBefore name (get_or names i d)) same first)
    (λ (nz : k ≡ 0 → ⊥). let later : at < at + k = omega arith in before_trans name (get_or names at d) (get_or names (at + k) d) first (ascending at (at + k) d later inside))
    (cases_eq k 0))

-- the names after the place of the new one
insert_after : (names : List (List ℕ)) (at : ℕ) (name d : List ℕ) (j : ℕ) → at < j → at ≤ length names → get_or (insert names at name) j d ≡ get_or names (j - 1) d
insert_after names at name d j after within =
    let step : j - 1 + 1 ≡ j = omega arith in
    let from : at ≤ j - 1 = omega arith in
    subst (λ n. get_or (insert names at name) n d ≡ get_or names (j - 1) d) step (get_or-insert_above names at name d (j - 1) from within)

-- the name at its place
insert_at : (names : List (List ℕ)) (at : ℕ) (name d : List ℕ) (j : ℕ) → at ≡ j → at ≤ length names → get_or (insert names at name) j d ≡ name
insert_at names at name d j here within = subst (λ n. get_or (insert names at name) n d ≡ name) here (get_or-insert_at names at name d within)

-- two of the names that come after the first of two places
before_in : (names : List (List ℕ)) (at : ℕ) (name d x y : List ℕ) (i j : ℕ) → get_or (insert names at name) i d ≡ x → get_or (insert names at name) j d ≡ y → IsBefore x y
    → IsBefore (get_or (insert names at name) i d) (get_or (insert names at name) j d)
before_in names at name d x y i j ei ej before =
    subst (λ w. IsBefore w (get_or (insert names at name) j d)) (sym ei) (subst (IsBefore x) (sym ej) before)

-- a name in its place keeps the order
pub ascending_insert : (names : List (List ℕ)) (at : ℕ) (name : List ℕ) → AllPairs IsBefore names → at ≤ length names
    → All (λ other. IsBefore other name) (take at names) → All (IsBefore name) (drop at names) → AllPairs IsBefore (insert names at name)
ascending_insert names at name ascending within above below i j d lt inside =
    let total : length (insert names at name) ≡ length names + 1 = length-insert names at name within in
    let left : length (take at names) ≡ at = omega (arith, length-take at names) in
    let right : length (drop at names) ≡ length names - at = length-drop at names in
    let rest : i < at → get_or (insert names at name) i d ≡ get_or names i d = λ h. get_or-insert_below names at name d i h within in
    ⊎_elim (λ (i_below : i < at).
    ⊎_elim (λ (j_below : j < at).
    let ends : j < length names = omega arith in
    before_in names at name d _ _ i j (rest i_below) (get_or-insert_below names at name d j j_below within) (ascending i j d lt ends))
    (λ (j_from : at ≤ j).
    ⊎_elim (λ (here : at ≡ j).
    let in_front : i < length (take at names) = omega arith in
    before_in names at name d _ _ i j (rest i_below) (insert_at names at name d j here within) (subst (λ w. IsBefore w name) (get_or-take at names i d i_below) (above i d in_front)))
    (λ (apart : at ≡ j → ⊥).
    let j_after : at < j = omega arith in
    let order : i < j - 1 = omega arith in
    let ends : j - 1 < length names = omega arith in
    before_in names at name d _ _ i j (rest i_below) (insert_after names at name d j j_after within) (ascending i (j - 1) d order ends))
    (cases_eq at j))
    (cases_lt j at))
    (λ (i_from : at ≤ i).
    let j_after : at < j = omega arith in
    let ends : j - 1 < length names = omega arith in
    let later = insert_after names at name d j j_after within in
    ⊎_elim (λ (here : at ≡ i).
    let k : j - 1 - at < length (drop at names) = omega arith in
    let sum : at + (j - 1 - at) ≡ j - 1 = omega arith in
    let read = get_or-drop at names (j - 1 - at) d ∙ ap (λ n. get_or names n d) sum in
    before_in names at name d _ _ i j (insert_at names at name d i here within) later (subst (IsBefore name) read (below (j - 1 - at) d k)))
    (λ (apart : at ≡ i → ⊥).
    let i_after : at < i = omega arith in
    let order : i - 1 < j - 1 = omega arith in
    before_in names at name d _ _ i j (insert_after names at name d i i_after within) later (ascending (i - 1) (j - 1) d order ends))
    (cases_eq at i))
    (cases_lt i at)

-- the names after one was put in
pub insert_cases : (names : List (List ℕ)) (at : ℕ) (name other : List ℕ) → Contains (insert names at name) other → Contains names other ⊎ (name ≡ other)
insert_cases names at name other h =
    let whole = take-append-drop at names in
    ⊎_elim (λ (l : Contains (take at names) other). inl (subst (λ ns. Contains ns other) whole (Contains-append_left (take at names) (drop at names) other l)))
    (λ (r : Contains (name ∷ drop at names) other).
    ⊎_elim (λ (m : Contains (name ∷ []) other). ⊎_elim (λ (n : Contains [] other). absurd (omega (arith, n.1))) (λ (e : name ≡ other). inr e) (Contains-push_cases [] name other m))
    (λ (m : Contains (drop at names) other). inl (subst (λ ns. Contains ns other) whole (Contains-append_right (take at names) (drop at names) other m)))
    (Contains-append_cases (name ∷ []) (drop at names) other r))
    (Contains-append_cases (take at names) (name ∷ drop at names) other h)

pub insert_keeps : (names : List (List ℕ)) (at : ℕ) (name other : List ℕ) → Contains names other → Contains (insert names at name) other
insert_keeps names at name other h =
    ⊎_elim (λ (l : Contains (take at names) other). Contains-append_left (take at names) (name ∷ drop at names) other l)
    (λ (r : Contains (drop at names) other). Contains-append_right (take at names) (name ∷ drop at names) other (Contains-append_right (name ∷ []) (drop at names) other r))
    (Contains-append_cases (take at names) (drop at names) other (subst (λ ns. Contains ns other) (sym (take-append-drop at names)) h))

pub insert_has : (names : List (List ℕ)) (at : ℕ) (name : List ℕ) → Contains (insert names at name) name
insert_has names at name =
    Contains-append_right (take at names) (name ∷ drop at names) name (Contains-append_left (name ∷ []) (drop at names) name (Contains-push [] name))
