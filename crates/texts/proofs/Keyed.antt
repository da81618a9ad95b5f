-- Lists of pairs with distinct keys.
use Rattle.std.proofs.Common.{◌≡◌, ◌<◌, ℕ, suc, true, false, if◌then◌else◌, List, [], ◌∷◌, ◌++◌, length, get_or, set, take, drop, drop-cons, sym, refl, ap, ◌∙◌, subst}
use Rattle.std.proofs.lemmas.List.{set_split}
use Rattle.std.specs.Bool.{Decides}
use Rattle.std.specs.Str.{bytes_eq}
use Rattle.std.proofs.lemmas.Slice.Eq.{bytes_eq-Decides}
use Rattle.std.proofs.lemmas.Bool.{false≢true}
use Rattle.texts.specs.declared.pairs.Pair.{Pair}
use Rattle.texts.specs.Keys.{keys, IsNew, IsDistinct, put}

IsNew-push : {T : Type 0} (k : List ℕ) (ps : List (Pair T)) (p : Pair T) → IsNew k (keys ps) → (k ≡ p.key → ⊥) → IsNew k (keys (ps ++ p ∷ []))
IsNew-push k [] p new other = (other, tt)
IsNew-push k (q ∷ ps) p new other = (new.0, IsNew-push k ps p new.1 other)

-- one more pair, with a key that is new, leaves the keys distinct
pub IsDistinct-push : {T : Type 0} (ps : List (Pair T)) (p : Pair T) → IsDistinct (keys ps) → IsNew p.key (keys ps) → IsDistinct (keys (ps ++ p ∷ []))
IsDistinct-push [] p distinct new = (tt, tt)
IsDistinct-push (q ∷ ps) p distinct new =
    (IsNew-push q.key ps p distinct.0 (λ e. new.0 (sym e)), IsDistinct-push ps p distinct.1 new.1)

IsNew-put : {T : Type 0} (j : List ℕ) (ps : List (Pair T)) (k : List ℕ) (v : T) → IsNew j (keys ps) → (j ≡ k → ⊥) → IsNew j (keys (put ps k v))
IsNew-put j [] k v new other = (other, tt)
IsNew-put j (p ∷ ps) k v new other =
    elim (bytes_eq p.key k) as (λ b. IsNew j (keys (if b then record { key = k; value = v } ∷ ps else p ∷ put ps k v)))
    [ true ↦ (other, new.1) | false ↦ (new.0, IsNew-put j ps k v new.1 other) ]

-- one value put at a key leaves the keys distinct
pub IsDistinct-put : {T : Type 0} (ps : List (Pair T)) (k : List ℕ) (v : T) → IsDistinct (keys ps) → IsDistinct (keys (put ps k v))
IsDistinct-put [] k v distinct = (tt, tt)
IsDistinct-put (p ∷ ps) k v distinct =
    let d = bytes_eq-Decides p.key k in
    elim (bytes_eq p.key k) as (λ b. Decides b (p.key ≡ k) → IsDistinct (keys (if b then record { key = k; value = v } ∷ ps else p ∷ put ps k v))) [
      | true ↦ (λ w. (subst (λ j. IsNew j (keys ps)) (w.0 refl) distinct.0, distinct.1))
      | false ↦ (λ w. (IsNew-put p.key ps k v distinct.0 (λ e. false≢true (w.1 e)), IsDistinct-put ps k v distinct.1))
    ] d

put_here : {T : Type 0} (p : Pair T) (ps : List (Pair T)) (k : List ℕ) (v : T) → bytes_eq p.key k ≡ true → put (p ∷ ps) k v ≡ record { key = k; value = v } ∷ ps
put_here p ps k v here = ap (λ b. if b then record { key = k; value = v } ∷ ps else p ∷ put ps k v) here

-- a value put where the key stands first
pub put_at : {T : Type 0} (ps : List (Pair T)) (i : ℕ) (k : List ℕ) (v : T) (p : Pair T) → i < length ps → p ≡ get_or ps i p → bytes_eq p.key k ≡ true
    → put ps k v ≡ take i ps ++ put (drop i ps) k v → put ps k v ≡ set ps i (record { key = k; value = v })
put_at ps i k v p within at here before =
    let here' : bytes_eq (get_or ps i p).key k ≡ true = subst (λ q. bytes_eq q.key k ≡ true) at here in
    before ∙ ap (λ xs. take i ps ++ put xs k v) (drop-cons ps i p within) ∙ ap (λ xs. take i ps ++ xs) (put_here (get_or ps i p) (drop (suc i) ps) k v here')
    ∙ sym (set_split ps i (record { key = k; value = v }) within)
