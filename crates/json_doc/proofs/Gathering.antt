-- Pairs under a table of their keys.
use Rattle.std.proofs.Common.{◌≡◌, ℕ, nat_eq, Bool, true, false, if◌then◌else◌, List, [], ◌∷◌, ◌++◌, refl, sym, ap, ◌∙◌}
use Rattle.std.specs.Bool.{Decides}
use Rattle.std.specs.Str.{bytes_eq}
use Rattle.std.specs.Cmp.Lexicographic.{pointwise}
use Rattle.std.specs.List.{AllByRecursion}
use Rattle.std.specs.List as std
use Rattle.std.specs.Map.{keys_of}
use Rattle.std.proofs.lemmas.Slice.Eq.{bytes_eq-Decides}
use Rattle.std.proofs.lemmas.Bool.{false≢true}
use Rattle.std.proofs.lemmas.Bool.Decides.{same_from_decides}
use Rattle.indexmap.specs.IndexMap.{insert_entry}
use Rattle.json_doc.specs.declared.doc.Doc.{Doc}
use Rattle.texts.specs.declared.pairs.Pair.{Pair}
use Rattle.texts.specs.Keys.{keys, IsNew, IsDistinct, put}
use Rattle.json_doc.specs.Gathered.{pairs_of}

-- comparing from the other side
turned : (j k : List ℕ) → bytes_eq j k ≡ bytes_eq k j
turned j k =
    let d = bytes_eq-Decides j k in
    let e = bytes_eq-Decides k j in
    let f : Decides (bytes_eq k j) (j ≡ k) = (λ h. sym (e.0 h), λ h. e.1 (sym h)) in
    same_from_decides _ _ d f

-- an entry inserted is a value put
pub pairs_of-insert_entry : (es : List (List ℕ × Doc)) (k : List ℕ) (v : Doc) → pairs_of (insert_entry (pointwise nat_eq) es k v) ≡ put (pairs_of es) k v
pairs_of-insert_entry [] k v = refl
pairs_of-insert_entry (e ∷ es) k v =
    let after : Bool → List (List ℕ × Doc) = λ b. if b then (e.0, v) ∷ es else e ∷ insert_entry (pointwise nat_eq) es k v in
    elim (bytes_eq e.0 k) as (λ b. pointwise nat_eq k e.0 ≡ b → (b ≡ true → e.0 ≡ k) → pairs_of (after (pointwise nat_eq k e.0))
    ≡ (if b then record { key = k; value = v } ∷ pairs_of es else record { key = e.0; value = e.1 } ∷ put (pairs_of es) k v)) [
      | true ↦ (λ t same. ap (λ b. pairs_of (after b)) t ∙ ap (λ j. record { key = j; value = v } ∷ pairs_of es) (same refl))
      | false ↦ (λ t same. ap (λ b. pairs_of (after b)) t ∙ ap (λ ps. record { key = e.0; value = e.1 } ∷ ps) (pairs_of-insert_entry es k v))
    ]
    (turned k e.0) (bytes_eq-Decides e.0 k).0

new-keys : (k : List ℕ) (es : List (List ℕ × Doc)) → AllByRecursion (λ j. pointwise nat_eq k j ≡ false) (keys_of es) → IsNew k (keys (pairs_of es))
new-keys k [] h = tt
new-keys k (e ∷ es) h = (λ same. false≢true (sym h.0 ∙ (bytes_eq-Decides k e.0).1 same), new-keys k es h.1)

-- a table's keys are distinct
pub distinct-keys : (es : List (List ℕ × Doc)) → std.IsDistinct (pointwise nat_eq) (keys_of es) → IsDistinct (keys (pairs_of es))
unfolding std.IsDistinct
distinct-keys [] h = tt
distinct-keys (e ∷ es) h = (new-keys e.0 es h.0, distinct-keys es h.1)

new-among : (k : List ℕ) (ps qs : List (Pair Doc)) (p : Pair Doc) → IsNew k (keys (ps ++ p ∷ qs)) → k ≡ p.key → ⊥
new-among k [] qs p h = h.0
new-among k (o ∷ ps) qs p h = new-among k ps qs p h.1

-- among distinct keys each is new to those before it
pub IsNew-before : (ps qs : List (Pair Doc)) (p : Pair Doc) → IsDistinct (keys (ps ++ p ∷ qs)) → IsNew p.key (keys ps)
IsNew-before [] qs p h = tt
IsNew-before (o ∷ ps) qs p h = (λ e. new-among o.key ps qs p h.0 (sym e), IsNew-before ps qs p h.1)

-- a value put at a new key goes last
pub put_last : (ps : List (Pair Doc)) (k : List ℕ) (v : Doc) → IsNew k (keys ps) → put ps k v ≡ ps ++ record { key = k; value = v } ∷ []
put_last [] k v new = refl
put_last (p ∷ ps) k v new =
    elim (bytes_eq p.key k) as (λ b. (b ≡ true → p.key ≡ k) → (if b then record { key = k; value = v } ∷ ps else p ∷ put ps k v) ≡ p ∷ ps ++ record { key = k; value = v } ∷ [])
    [ true ↦ (λ same. absurd (new.0 (sym (same refl)))) | false ↦ (λ same. ap (λ qs. p ∷ qs) (put_last ps k v new.1)) ] (bytes_eq-Decides p.key k).0
