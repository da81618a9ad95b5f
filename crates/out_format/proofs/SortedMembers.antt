-- Members that are put into their places stand in ascending order, and none is lost.
use Rattle.std.proofs.Common.{◌≡◌, ℕ, Bool, true, false, ◌||◌, List, [], ◌∷◌, ◌++◌, map, refl, sym, ap, ◌∙◌, subst, append-nil}
use Rattle.std.specs.Prelude.{IsPermutation}
use Rattle.std.specs.List.{AllByRecursion}
use Rattle.std.specs.declared.cmp.Ordering.{Ordering}
use Rattle.std.specs.declared.cmp.Ordering.TheVariants.{Less, Equal, Greater}
use Rattle.std.specs.Ordering.{match_ordering, ordering_reverse, is_eq}
use Rattle.std.specs.Cmp.Lexicographic.{nat_list_cmp_total}
use Rattle.std.specs.FinMap.{slice_cmp-IsAntisymmetric, nat_cmp-IsAntisymmetric}
use Rattle.std.proofs.lemmas.List.Sorted.{IsPermutation-refl, IsPermutation-sym, IsPermutation-cons, IsPermutation-trans, IsPermutation-append_left, IsPermutation-middle}
use Rattle.texts.specs.declared.pairs.Pair.{Pair}
use Rattle.texts.specs.Keys.{keys, IsNew, IsDistinct}
use Rattle.texts.specs.Order.{text_cmp}
use Rattle.out_format.specs.Members.{placed, all_placed, sorted}
use Rattle.out_format.specs.Ascending.{IsAscending, has_key}

pub same_key : (j k : List ℕ) → text_cmp j k ≡ Equal → j ≡ k
same_key j k e = slice_cmp-IsAntisymmetric nat_cmp-IsAntisymmetric j k e

pub less_trans : (i j k : List ℕ) → text_cmp i j ≡ Less → text_cmp j k ≡ Less → text_cmp i k ≡ Less
less_trans i j k e e' = nat_list_cmp_total.trans i j k e e'

pub less_from_greater : (j k : List ℕ) → text_cmp j k ≡ Greater → text_cmp k j ≡ Less
less_from_greater j k e = nat_list_cmp_total.antisymm k j ∙ ap ordering_reverse e

-- Ascending order.

above_choice : {X : Type 0} (P : List ℕ → Type 0) (o : Ordering) (a b c : List (Pair X)) → AllByRecursion P (keys a) → AllByRecursion P (keys b) → AllByRecursion P (keys c) → AllByRecursion P (keys (match_ordering o a b c))
above_choice P Less a b c x y z = x
above_choice P Equal a b c x y z = y
above_choice P Greater a b c x y z = z

above-placed : {X : Type 0} (P : List ℕ → Type 0) (qs : List (Pair X)) (p : Pair X) → AllByRecursion P (keys qs) → P p.key → AllByRecursion P (keys (placed qs p))
above-placed P [] p all is = (is, tt)
above-placed P (q ∷ qs) p all is =
    above_choice P (text_cmp p.key q.key) (p ∷ q ∷ qs) (p ∷ qs) (q ∷ placed qs p) (is, all) (is, all.1) (all.0, above-placed P qs p all.1 is)

pub all_later : (j k : List ℕ) (ks : List (List ℕ)) → text_cmp j k ≡ Less → AllByRecursion (λ i. text_cmp k i ≡ Less) ks → AllByRecursion (λ i. text_cmp j i ≡ Less) ks
all_later j k [] less all = tt
all_later j k (i ∷ ks) less all = (less_trans j k i less all.0, all_later j k ks less all.1)

pub all_same : (j k : List ℕ) (ks : List (List ℕ)) → j ≡ k → AllByRecursion (λ i. text_cmp k i ≡ Less) ks → AllByRecursion (λ i. text_cmp j i ≡ Less) ks
all_same j k [] same all = tt
all_same j k (i ∷ ks) same all = (ap (λ b. text_cmp b i) same ∙ all.0, all_same j k ks same all.1)

ascending_choice : {X : Type 0} (o : Ordering) (p q : Pair X) (qs : List (Pair X)) → text_cmp p.key q.key ≡ o
    → AllByRecursion (λ i. text_cmp q.key i ≡ Less) (keys qs) → IsAscending (keys qs) → IsAscending (keys (placed qs p))
    → IsAscending (keys (match_ordering o (p ∷ q ∷ qs) (p ∷ qs) (q ∷ placed qs p)))
ascending_choice Less p q qs o above all more = ((o, all_later p.key q.key (keys qs) o above), (above, all))
ascending_choice Equal p q qs o above all more = (all_same p.key q.key (keys qs) (same_key p.key q.key o) above, all)
ascending_choice Greater p q qs o above all more = (above-placed (λ i. text_cmp q.key i ≡ Less) qs p above (less_from_greater p.key q.key o), more)

ascending-placed : {X : Type 0} (qs : List (Pair X)) (p : Pair X) → IsAscending (keys qs) → IsAscending (keys (placed qs p))
ascending-placed [] p all = (tt, tt)
ascending-placed (q ∷ qs) p all = ascending_choice (text_cmp p.key q.key) p q qs refl all.0 all.1 (ascending-placed qs p all.1)

ascending-all_placed : {X : Type 0} (done ps : List (Pair X)) → IsAscending (keys done) → IsAscending (keys (all_placed done ps))
ascending-all_placed done [] all = all
ascending-all_placed done (p ∷ ps) all = ascending-all_placed (placed done p) ps (ascending-placed done p all)

pub ascending-sorted : {X : Type 0} (ps : List (Pair X)) → IsAscending (keys (sorted ps))
ascending-sorted ps = ascending-all_placed [] ps tt

-- The same keys.

or_swap : (a b c : Bool) → (a || (b || c)) ≡ (b || (a || c))
or_swap true true c = refl
or_swap true false c = refl
or_swap false b c = refl

or_same : (a b c : Bool) → a ≡ b → (a || c) ≡ (a || (b || c))
or_same true b c e = refl
or_same false b c e = rw (← e) refl

same_test : (k i j : List ℕ) → i ≡ j → is_eq (text_cmp k i) ≡ is_eq (text_cmp k j)
same_test k i j same = ap (λ b. is_eq (text_cmp k b)) same

key_choice : {X : Type 0} (k : List ℕ) (o : Ordering) (p q : Pair X) (qs : List (Pair X)) → text_cmp p.key q.key ≡ o
    → has_key k (keys (placed qs p)) ≡ (is_eq (text_cmp k p.key) || has_key k (keys qs))
    → has_key k (keys (match_ordering o (p ∷ q ∷ qs) (p ∷ qs) (q ∷ placed qs p))) ≡ (is_eq (text_cmp k p.key) || (is_eq (text_cmp k q.key) || has_key k (keys qs)))
key_choice k Less p q qs o more = refl
key_choice k Equal p q qs o more = or_same (is_eq (text_cmp k p.key)) (is_eq (text_cmp k q.key)) (has_key k (keys qs)) (same_test k p.key q.key (same_key p.key q.key o))
key_choice k Greater p q qs o more =
    ap (λ b. is_eq (text_cmp k q.key) || b) more ∙ or_swap (is_eq (text_cmp k q.key)) (is_eq (text_cmp k p.key)) (has_key k (keys qs))

key-placed : {X : Type 0} (k : List ℕ) (qs : List (Pair X)) (p : Pair X) → has_key k (keys (placed qs p)) ≡ (is_eq (text_cmp k p.key) || has_key k (keys qs))
key-placed k [] p = refl
key-placed k (q ∷ qs) p = key_choice k (text_cmp p.key q.key) p q qs refl (key-placed k qs p)

or_into : (a b c : Bool) → ((a || b) || c) ≡ (b || (a || c))
or_into true true c = refl
or_into true false c = refl
or_into false b c = refl

key-all_placed : {X : Type 0} (k : List ℕ) (done ps : List (Pair X)) → has_key k (keys (all_placed done ps)) ≡ (has_key k (keys done) || has_key k (keys ps))
key-all_placed k done [] = or_none (has_key k (keys done))
  where
    or_none : (a : Bool) → a ≡ (a || false)
    or_none true = refl
    or_none false = refl
key-all_placed k done (p ∷ ps) =
    key-all_placed k (placed done p) ps ∙ ap (λ b. b || has_key k (keys ps)) (key-placed k done p)
    ∙ or_into (is_eq (text_cmp k p.key)) (has_key k (keys done)) (has_key k (keys ps))

pub key-sorted : {X : Type 0} (k : List ℕ) (ps : List (Pair X)) → has_key k (keys (sorted ps)) ≡ has_key k (keys ps)
key-sorted k ps = key-all_placed k [] ps

-- A permutation, where the keys are distinct.

abbrev pub IsApart : {X : Type 0} → Pair X → List (Pair X) → Type 0
IsApart p qs = AllByRecursion (λ q. text_cmp p.key q.key ≡ Equal → ⊥) qs

moved_choice : {X : Type 0} (o : Ordering) (p q : Pair X) (qs : List (Pair X)) → text_cmp p.key q.key ≡ o → (text_cmp p.key q.key ≡ Equal → ⊥)
    → IsPermutation (p ∷ qs) (placed qs p) → IsPermutation (p ∷ q ∷ qs) (match_ordering o (p ∷ q ∷ qs) (p ∷ qs) (q ∷ placed qs p))
moved_choice Less p q qs o apart more = IsPermutation-refl (p ∷ q ∷ qs)
moved_choice Equal p q qs o apart more = absurd (apart o)
moved_choice Greater p q qs o apart more =
    IsPermutation-trans (p ∷ q ∷ qs) (q ∷ p ∷ qs) (q ∷ placed qs p) (IsPermutation-sym (q ∷ p ∷ qs) (p ∷ q ∷ qs) (IsPermutation-middle (q ∷ []) p qs)) (IsPermutation-cons q (p ∷ qs) (placed qs p) more)

moved-placed : {X : Type 0} (qs : List (Pair X)) (p : Pair X) → IsApart p qs → IsPermutation (p ∷ qs) (placed qs p)
moved-placed [] p apart = IsPermutation-refl (p ∷ [])
moved-placed (q ∷ qs) p apart = moved_choice (text_cmp p.key q.key) p q qs refl apart.0 (moved-placed qs p apart.1)

-- each of these is apart from those that are done
abbrev pub AreApart : {X : Type 0} → List (Pair X) → List (Pair X) → Type 0
AreApart done ps = AllByRecursion (λ p. IsApart p done) ps

apart_choice : {X : Type 0} (r : Pair X) (o : Ordering) (a b c : List (Pair X)) → IsApart r a → IsApart r b → IsApart r c → IsApart r (match_ordering o a b c)
apart_choice r Less a b c x y z = x
apart_choice r Equal a b c x y z = y
apart_choice r Greater a b c x y z = z

apart-placed : {X : Type 0} (r : Pair X) (qs : List (Pair X)) (p : Pair X) → IsApart r qs → (text_cmp r.key p.key ≡ Equal → ⊥) → IsApart r (placed qs p)
apart-placed r [] p all is = (is, tt)
apart-placed r (q ∷ qs) p all is =
    apart_choice r (text_cmp p.key q.key) (p ∷ q ∷ qs) (p ∷ qs) (q ∷ placed qs p) (is, all) (is, all.1) (all.0, apart-placed r qs p all.1 is)

pub later_apart : {X : Type 0} (done : List (Pair X)) (p : Pair X) (ps : List (Pair X)) → AreApart done ps → IsNew p.key (keys ps) → AreApart (placed done p) ps
later_apart done p [] apart new = tt
later_apart done p (r ∷ ps) apart new =
    (apart-placed r done p apart.0 (λ e. new.0 (sym (same_key r.key p.key e))), later_apart done p ps apart.1 new.1)

moved-all_placed : {X : Type 0} (done ps : List (Pair X)) → AreApart done ps → IsDistinct (keys ps) → IsPermutation (done ++ ps) (all_placed done ps)
moved-all_placed done [] apart distinct = subst (λ qs. IsPermutation qs done) (sym (append-nil done)) (IsPermutation-refl done)
moved-all_placed done (p ∷ ps) apart distinct =
    IsPermutation-trans (done ++ p ∷ ps) (p ∷ (done ++ ps)) (all_placed (placed done p) ps) (IsPermutation-middle done p ps)
    (IsPermutation-trans (p ∷ (done ++ ps)) (placed done p ++ ps) (all_placed (placed done p) ps)
    (IsPermutation-append_left ps (p ∷ done) (placed done p) (moved-placed done p apart.0))
    (moved-all_placed (placed done p) ps (later_apart done p ps apart.1 distinct.0) distinct.1))

pub none_apart : {X : Type 0} (ps : List (Pair X)) → AreApart [] ps
none_apart [] = tt
none_apart (p ∷ ps) = (tt, none_apart ps)

pub permutation-sorted : {X : Type 0} (ps : List (Pair X)) → IsDistinct (keys ps) → IsPermutation ps (sorted ps)
permutation-sorted ps distinct = moved-all_placed [] ps (none_apart ps) distinct
