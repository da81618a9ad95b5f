-- The order of names.
use Rattle.std.proofs.Common.{◌≡◌, ℕ, zero, suc, List, [], ◌∷◌, ◌++◌, Option, None, Some, refl, sym, ap, ◌∙◌, subst, arith, append_assoc, ◌⊎◌, inl, inr, ⊎_elim}
use Rattle.std.specs.Prelude.{AllPairs, Contains}
use Rattle.std.specs.Ordering.{ordering_reverse}
use Rattle.std.specs.Cmp.Lexicographic.{nat_list_cmp_total}
use Rattle.texts.specs.Order.{IsBefore}
use Rattle.model_store.specs.Inside.{IsAfter}
use Rattle.model_store.specs.Versions.{IsUpTo}

pub before_trans : (a b c : List ℕ) → IsBefore a b → IsBefore b c → IsBefore a c
before_trans a b c p q = nat_list_cmp_total.trans a b c p q

pub before_asym : (a b : List ℕ) → IsBefore a b → IsBefore b a → ⊥
before_asym a b p q =
    let e = nat_list_cmp_total.antisymm a b in
    let f = ap ordering_reverse q in
    cc

pub not_before_self : (a : List ℕ) → IsBefore a a → ⊥
not_before_self a p = before_asym a a p p

-- a name up to one that comes before another comes before that
pub up_to_before : (a b c : List ℕ) → (a ≡ b) ⊎ IsBefore a b → IsBefore b c → IsBefore a c
up_to_before a b c p q = ⊎_elim (λ (e : a ≡ b). subst (λ n. IsBefore n c) (sym e) q) (λ (before : IsBefore a b). before_trans a b c before q) p

-- up to a name that is up to the last one
pub up_to_trans : (last : Option (List ℕ)) (a b : List ℕ) → (a ≡ b) ⊎ IsBefore a b → IsUpTo last b → IsUpTo last a
up_to_trans None a b p q = absurd q
up_to_trans (Some c) a b p q =
    ⊎_elim (λ (e : b ≡ c). subst (λ n. (a ≡ n) ⊎ IsBefore a n) e p) (λ (before : IsBefore b c). inr (up_to_before a b c p before)) q

-- what is up to the last one is up to what comes after it
pub up_to_after : (last : Option (List ℕ)) (a b : List ℕ) → IsUpTo last a → IsAfter last b → (a ≡ b) ⊎ IsBefore a b
up_to_after None a b p q = absurd p
up_to_after (Some c) a b p q = inr (up_to_before a c b p q)

-- no name is up to the last one and comes after it
pub not_both : (last : Option (List ℕ)) (a : List ℕ) → IsUpTo last a → IsAfter last a → ⊥
not_both None a p q = absurd p
not_both (Some c) a p q = not_before_self a (up_to_before a c a p q)

-- names that are up to each other are one
pub up_to_each : (a b : List ℕ) → (a ≡ b) ⊎ IsBefore a b → (b ≡ a) ⊎ IsBefore b a → a ≡ b
up_to_each a b p q =
    ⊎_elim (λ (e : a ≡ b). e) (λ (before : IsBefore a b). ⊎_elim (λ (e : b ≡ a). sym e) (λ (after : IsBefore b a). absurd (before_asym a b before after)) q) p

-- the head of ascending names comes before the others
head_before : (name : List ℕ) (names : List (List ℕ)) (other : List ℕ) → AllPairs IsBefore (name ∷ names) → Contains names other → IsBefore name other
head_before name names other ascending (k, within, e) =
    subst (IsBefore name) e (ascending 0 (suc k) other (omega arith) (omega arith))

tail_ascending : (name : List ℕ) (names : List (List ℕ)) → AllPairs IsBefore (name ∷ names) → AllPairs IsBefore names
tail_ascending name names ascending = λ i j d lt within. ascending (suc i) (suc j) d (omega arith) (omega arith)

-- the last of a front, and what is behind it
pub in_front : (names left smaller back : List (List ℕ)) (name : List ℕ) → names ≡ left ++ back → left ≡ smaller ++ name ∷ [] → names ≡ smaller ++ (name ∷ back)
in_front names left smaller back name e f = e ∙ ap (λ front. front ++ back) f ∙ append_assoc smaller (name ∷ []) back

pub contains_middle : (smaller back : List (List ℕ)) (name : List ℕ) → Contains (smaller ++ (name ∷ back)) name
contains_middle [] back name = (0, omega arith, refl)
contains_middle (v ∷ vs) back name = let more = contains_middle vs back name in (suc more.0, omega (arith, more.1), more.2)

-- of ascending names each stands behind a name, or is up to it
pub behind_or_up_to : (smaller back : List (List ℕ)) (name other : List ℕ) → AllPairs IsBefore (smaller ++ (name ∷ back)) → Contains (smaller ++ (name ∷ back)) other
    → Contains back other ⊎ ((other ≡ name) ⊎ IsBefore other name)
behind_or_up_to [] back name other ascending (zero, within, e) = inr (inl (sym e))
behind_or_up_to [] back name other ascending (suc k, within, e) = inl (k, omega arith, e)
behind_or_up_to (v ∷ vs) back name other ascending (zero, within, e) =
    inr (inr (subst (λ n. IsBefore n name) e (head_before v (vs ++ (name ∷ back)) name ascending (contains_middle vs back name))))
behind_or_up_to (v ∷ vs) back name other ascending (suc k, within, e) =
    behind_or_up_to vs back name other (tail_ascending v (vs ++ (name ∷ back)) ascending) (k, omega arith, e)
