-- The front of a list of pairs with distinct keys.
use Rattle.std.proofs.Common.{◌≡◌, ℕ, ◌+◌, ◌<◌, List, [], ◌∷◌, ◌++◌, length, get_or, drop, sym, ap, subst, ◌∙◌}
use Rattle.std.proofs.lemmas.List.{drop_more}
use Rattle.texts.specs.declared.pairs.Pair.{Pair}
use Rattle.texts.specs.Keys.{keys, IsNew, IsDistinct}

IsNew-other : {T : Type 0} (k : List ℕ) (front : List (Pair T)) (p : Pair T) (rest : List (Pair T)) → IsNew k (keys (front ++ p ∷ rest)) → k ≡ p.key → ⊥
IsNew-other k [] p rest new = new.0
IsNew-other k (q ∷ front) p rest new = IsNew-other k front p rest new.1

IsNew-front : {T : Type 0} (front : List (Pair T)) (p : Pair T) (rest : List (Pair T)) → IsDistinct (keys (front ++ p ∷ rest)) → IsNew p.key (keys front)
IsNew-front [] p rest distinct = tt
IsNew-front (q ∷ front) p rest distinct =
    ((λ e. IsNew-other q.key front p rest distinct.0 (sym e)), IsNew-front front p rest distinct.1)

-- the key at a place is none of those before it
pub IsNew-before : {T : Type 0} (ps made : List (Pair T)) (i : ℕ) (p : Pair T) → i < length ps → p ≡ get_or ps i p → made ++ drop i ps ≡ ps → IsDistinct (keys ps) → IsNew p.key (keys made)
IsNew-before ps made i p below at whole distinct =
    let split = sym whole ∙ ap (λ qs. made ++ qs) (drop_more ps i p below ∙ ap (λ q. q ∷ drop (i + 1) ps) (sym at)) in
    IsNew-front made p (drop (i + 1) ps) (subst (λ qs. IsDistinct (keys qs)) split distinct)
