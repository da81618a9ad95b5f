-- Texts of parts that are joined in one order or another.
use Rattle.std.proofs.Common.{◌≡◌, ℕ, List, [], ◌∷◌, ◌++◌, map, refl, sym, subst, append_assoc, append-nil}
use Rattle.std.specs.Prelude.{IsPermutation}
use Rattle.std.specs.List.{AllByRecursion, flat_map}
use Rattle.std.specs.declared.cmp.Ordering.{Ordering}
use Rattle.std.specs.declared.cmp.Ordering.TheVariants.{Less, Equal, Greater}
use Rattle.std.specs.Ordering.{match_ordering}
use Rattle.std.proofs.lemmas.List.Sorted.{IsPermutation-refl, IsPermutation-trans, IsPermutation-append, IsPermutation-append_left, IsPermutation-append_right, IsPermutation-append_comm}
use Rattle.texts.specs.declared.pairs.Pair.{Pair}
use Rattle.texts.specs.Keys.{keys, IsDistinct}
use Rattle.texts.specs.Order.{text_cmp}
use Rattle.out_format.specs.Members.{placed, all_placed, sorted}
use Rattle.out_format.proofs.SortedMembers.{IsApart, AreApart, later_apart, none_apart}

abbrev pub Texts : Type 0
Texts = List (List ℕ)

pub same_order : (xs ys : Texts) → xs ≡ ys → IsPermutation xs ys
same_order xs ys e = subst (IsPermutation xs) e (IsPermutation-refl xs)

pub moved_along : (xs xs' ys ys' : Texts) → xs' ≡ xs → ys ≡ ys' → IsPermutation xs ys → IsPermutation xs' ys'
moved_along xs xs' ys ys' e e' moved = subst (λ zs. IsPermutation zs ys') (sym e) (subst (IsPermutation xs) e' moved)

swap_front : (a b c : Texts) → IsPermutation (a ++ (b ++ c)) (b ++ (a ++ c))
swap_front a b c =
    moved_along ((a ++ b) ++ c) (a ++ (b ++ c)) ((b ++ a) ++ c) (b ++ (a ++ c)) (sym (append_assoc a b c)) (append_assoc b a c)
    (IsPermutation-append_left c (a ++ b) (b ++ a) (IsPermutation-append_comm a b))

-- two texts of each part, or all first ones and then all second ones
pub split : {X : Type 0} (f g : X → Texts) (xs : List X) → IsPermutation (flat_map (λ x. f x ++ g x) xs) (flat_map f xs ++ flat_map g xs)
split f g [] = IsPermutation-refl []
split f g (x ∷ xs) =
    let firsts = flat_map f xs in
    let seconds = flat_map g xs in
    let both = flat_map (λ y. f y ++ g y) xs in
    let rest = IsPermutation-append_right (f x ++ g x) both (firsts ++ seconds) (split f g xs) in
    let apart = IsPermutation-append_right (f x) (g x ++ (firsts ++ seconds)) (firsts ++ (g x ++ seconds)) (swap_front (g x) firsts seconds) in
    IsPermutation-trans ((f x ++ g x) ++ both) ((f x ++ g x) ++ (firsts ++ seconds)) ((f x ++ firsts) ++ (g x ++ seconds)) rest
    (moved_along (f x ++ (g x ++ (firsts ++ seconds))) ((f x ++ g x) ++ (firsts ++ seconds)) (f x ++ (firsts ++ (g x ++ seconds))) ((f x ++ firsts) ++ (g x ++ seconds))
    (append_assoc (f x) (g x) (firsts ++ seconds)) (sym (append_assoc (f x) firsts (g x ++ seconds))) apart)

pub each : {X : Type 0} (f g : X → Texts) (xs : List X) → AllByRecursion (λ x. IsPermutation (f x) (g x)) xs → IsPermutation (flat_map f xs) (flat_map g xs)
each f g [] all = IsPermutation-refl []
each f g (x ∷ xs) all = IsPermutation-append (f x) (g x) (flat_map f xs) (flat_map g xs) all.0 (each f g xs all.1)

-- texts of members, before and after they are sorted

placed_choice : {X : Type 0} (f : Pair X → Texts) (o : Ordering) (p q : Pair X) (qs : List (Pair X)) → text_cmp p.key q.key ≡ o → (text_cmp p.key q.key ≡ Equal → ⊥)
    → IsPermutation (f p ++ flat_map f qs) (flat_map f (placed qs p))
    → IsPermutation (f p ++ (f q ++ flat_map f qs)) (flat_map f (match_ordering o (p ∷ q ∷ qs) (p ∷ qs) (q ∷ placed qs p)))
placed_choice f Less p q qs o apart more = IsPermutation-refl (f p ++ (f q ++ flat_map f qs))
placed_choice f Equal p q qs o apart more = absurd (apart o)
placed_choice f Greater p q qs o apart more =
    IsPermutation-trans (f p ++ (f q ++ flat_map f qs)) (f q ++ (f p ++ flat_map f qs)) (f q ++ flat_map f (placed qs p)) (swap_front (f p) (f q) (flat_map f qs))
    (IsPermutation-append_right (f q) (f p ++ flat_map f qs) (flat_map f (placed qs p)) more)

placed_texts : {X : Type 0} (f : Pair X → Texts) (qs : List (Pair X)) (p : Pair X) → IsApart p qs → IsPermutation (f p ++ flat_map f qs) (flat_map f (placed qs p))
placed_texts f [] p apart = IsPermutation-refl (f p ++ [])
placed_texts f (q ∷ qs) p apart = placed_choice f (text_cmp p.key q.key) p q qs refl apart.0 (placed_texts f qs p apart.1)

all_placed_texts : {X : Type 0} (f : Pair X → Texts) (done ps : List (Pair X)) → AreApart done ps → IsDistinct (keys ps)
    → IsPermutation (flat_map f done ++ flat_map f ps) (flat_map f (all_placed done ps))
all_placed_texts f done [] apart distinct = same_order (flat_map f done ++ []) (flat_map f done) (append-nil (flat_map f done))
all_placed_texts f done (p ∷ ps) apart distinct =
    let before = flat_map f done in
    let rest = flat_map f ps in
    let moved = swap_front before (f p) rest in
    let put = IsPermutation-append_left rest (f p ++ before) (flat_map f (placed done p)) (placed_texts f done p apart.0) in
    let more = all_placed_texts f (placed done p) ps (later_apart done p ps apart.1 distinct.0) distinct.1 in
    IsPermutation-trans (before ++ (f p ++ rest)) (f p ++ (before ++ rest)) (flat_map f (all_placed (placed done p) ps)) moved
    (IsPermutation-trans (f p ++ (before ++ rest)) (flat_map f (placed done p) ++ rest) (flat_map f (all_placed (placed done p) ps))
    (moved_along ((f p ++ before) ++ rest) (f p ++ (before ++ rest)) (flat_map f (placed done p) ++ rest) (flat_map f (placed done p) ++ rest) (sym (append_assoc (f p) before rest)) refl put) more)

pub sorted_texts : {X : Type 0} (f : Pair X → Texts) (ps : List (Pair X)) → IsDistinct (keys ps) → IsPermutation (flat_map f ps) (flat_map f (sorted ps))
sorted_texts f ps distinct = all_placed_texts f [] ps (none_apart ps) distinct
