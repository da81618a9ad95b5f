-- A key is new where distinct keys have come as far as it.
use Rattle.std.proofs.Common.{◌≡◌, ℕ, ◌+◌, ◌<◌, List, [], ◌∷◌, ◌++◌, length, get_or, drop, sym, ap, subst, ◌∙◌}
use Rattle.std.proofs.lemmas.List.{drop_more}
use Rattle.texts.specs.declared.pairs.Pair.{Pair}
use Rattle.texts.specs.Keys.{keys, IsNew, IsDistinct}

other : (k : List ℕ) (front : List (List ℕ)) (j : List ℕ) (rest : List (List ℕ)) → IsNew k (front ++ j ∷ rest) → k ≡ j → ⊥
other k [] j rest new = new.0
other k (i ∷ front) j rest new = other k front j rest new.1

new_front : (front : List (List ℕ)) (k : List ℕ) (rest : List (List ℕ)) → IsDistinct (front ++ k ∷ rest) → IsNew k front
new_front [] k rest distinct = tt
new_front (j ∷ front) k rest distinct = ((λ e. other j front k rest distinct.0 (sym e)), new_front front k rest distinct.1)

-- the key at a place is none of those made before it, which have the keys before it
pub is_fresh : {S T : Type 0} (ps : List (Pair S)) (made : List (Pair T)) (i : ℕ) (p : Pair S) → i < length ps → p ≡ get_or ps i p
    → keys made ++ keys (drop i ps) ≡ keys ps → IsDistinct (keys ps) → IsNew p.key (keys made)
is_fresh ps made i p below at whole distinct =
    let split = sym whole ∙ ap (λ qs. keys made ++ keys qs) (drop_more ps i p below ∙ ap (λ q. q ∷ drop (i + 1) ps) (sym at)) in
    new_front (keys made) p.key (keys (drop (i + 1) ps)) (subst IsDistinct split distinct)
