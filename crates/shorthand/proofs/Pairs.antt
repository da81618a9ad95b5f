-- Pairs whose keys are distinct.
use Rattle.std.proofs.Common.{◌≡◌, ℕ, nat_eq, Bool, true, false, cond, if◌then◌else◌, List, [], ◌∷◌, ◌++◌, refl, sym, ap, ◌∙◌}
use Rattle.std.specs.Prelude.{is_some, Some}
use Rattle.std.specs.Bool.{Decides}
use Rattle.std.specs.Cmp.Lexicographic.{pointwise}
use Rattle.std.specs.List.{AllByRecursion}
use Rattle.std.specs.List as std
use Rattle.std.specs.Map.{keys_of, lookup}
use Rattle.std.proofs.lemmas.Bool.Decides.{same_from_decides}
use Rattle.indexmap.specs.IndexMap.{insert_entry}
use Rattle.shorthand.specs.Table.{pairs_of}
use Rattle.std.specs.Str.{bytes_eq}
use Rattle.std.proofs.lemmas.Slice.Eq.{bytes_eq-Decides}
use Rattle.std.proofs.lemmas.Bool.{false≢true}
use Rattle.texts.specs.declared.pairs.Pair.{Pair}
use Rattle.texts.specs.Keys.{keys, value_at, IsNew, IsDistinct, put}
use Rattle.shorthand.specs.declared.short.Short.{Short}
use Rattle.shorthand.specs.Reading.{has_key}

-- a value put at a new key goes last
pub put_new : (ps : List (Pair Short)) (k : List ℕ) (v : Short) → IsNew k (keys ps) → put ps k v ≡ ps ++ record { key = k; value = v } ∷ []
put_new [] k v new = refl
put_new (p ∷ ps) k v new =
    elim (bytes_eq p.key k) as (λ b. (b ≡ true → p.key ≡ k) → (if b then record { key = k; value = v } ∷ ps else p ∷ put ps k v) ≡ p ∷ ps ++ record { key = k; value = v } ∷ [])
    [ true ↦ (λ same. absurd (new.0 (sym (same refl)))) | false ↦ (λ same. ap (λ qs. p ∷ qs) (put_new ps k v new.1)) ] (bytes_eq-Decides p.key k).0

-- a key that isn't found is new
pub new_key : (ps : List (Pair Short)) (k : List ℕ) → has_key k ps ≡ false → IsNew k (keys ps)
new_key [] k fails = tt
new_key (p ∷ ps) k fails =
    elim (bytes_eq p.key k) as (λ b. (p.key ≡ k → b ≡ true) → is_some (if b then Some p.value else value_at k ps) ≡ false → IsNew k (keys (p ∷ ps))) [
      | true ↦ (λ same h. absurd (false≢true (sym h)))
      | false ↦ (λ same h. ((λ e. false≢true (same (sym e))), new_key ps k h))
    ] (bytes_eq-Decides p.key k).1 fails

among : (k : List ℕ) (ps qs : List (Pair Short)) (p : Pair Short) → IsNew k (keys (ps ++ p ∷ qs)) → k ≡ p.key → ⊥
among k [] qs p new = new.0
among k (o ∷ ps) qs p new = among k ps qs p new.1

-- among distinct keys one that is found comes no second time
pub found_again : (ps qs : List (Pair Short)) (p : Pair Short) → has_key p.key ps ≡ true → IsDistinct (keys (ps ++ p ∷ qs)) → ⊥
found_again [] qs p found d = false≢true found
found_again (o ∷ ps) qs p found d =
    elim (bytes_eq o.key p.key) as (λ b. (b ≡ true → o.key ≡ p.key) → is_some (if b then Some o.value else value_at p.key ps) ≡ true → ⊥) [
      | true ↦ (λ same h. among o.key ps qs p d.0 (same refl))
      | false ↦ (λ same h. found_again ps qs p h d.1)
    ] (bytes_eq-Decides o.key p.key).0 found

-- Pairs under a table of their keys.

-- comparing from the other side
turned : (j k : List ℕ) → pointwise nat_eq k j ≡ bytes_eq j k
turned j k =
    let d = bytes_eq-Decides k j in
    let e = bytes_eq-Decides j k in
    let f : Decides (bytes_eq k j) (j ≡ k) = ((λ h. sym (d.0 h)), (λ h. d.1 (sym h))) in
    same_from_decides _ _ f e

pub table_has : (es : List (List ℕ × Short)) (k : List ℕ) → is_some (lookup (pointwise nat_eq k) es) ≡ has_key k (pairs_of es)
table_has [] k = refl
table_has (e ∷ es) k =
    elim (bytes_eq e.0 k) as (λ b. pointwise nat_eq k e.0 ≡ b → is_some (cond (pointwise nat_eq k e.0) (Some e.1) (lookup (pointwise nat_eq k) es)) ≡ is_some (if b then Some e.1 else value_at k (pairs_of es))) [
      | true ↦ (λ t. ap (λ b. is_some (cond b (Some e.1) (lookup (pointwise nat_eq k) es))) t)
      | false ↦ (λ t. ap (λ b. is_some (cond b (Some e.1) (lookup (pointwise nat_eq k) es))) t ∙ table_has es k)
    ] (turned e.0 k)

-- an entry inserted is a value put
pub table_put : (es : List (List ℕ × Short)) (k : List ℕ) (v : Short) → pairs_of (insert_entry (pointwise nat_eq) es k v) ≡ put (pairs_of es) k v
table_put [] k v = refl
table_put (e ∷ es) k v =
    let after : Bool → List (List ℕ × Short) = λ b. if b then (e.0, v) ∷ es else e ∷ insert_entry (pointwise nat_eq) es k v in
    elim (bytes_eq e.0 k) as (λ b. pointwise nat_eq k e.0 ≡ b → (b ≡ true → e.0 ≡ k) → pairs_of (after (pointwise nat_eq k e.0))
    ≡ (if b then record { key = k; value = v } ∷ pairs_of es else record { key = e.0; value = e.1 } ∷ put (pairs_of es) k v)) [
      | true ↦ (λ t same. ap (λ b. pairs_of (after b)) t ∙ ap (λ j. record { key = j; value = v } ∷ pairs_of es) (same refl))
      | false ↦ (λ t same. ap (λ b. pairs_of (after b)) t ∙ ap (λ ps. record { key = e.0; value = e.1 } ∷ ps) (table_put es k v))
    ]
    (turned e.0 k) (bytes_eq-Decides e.0 k).0

new_entry : (k : List ℕ) (es : List (List ℕ × Short)) → AllByRecursion (λ j. pointwise nat_eq k j ≡ false) (keys_of es) → IsNew k (keys (pairs_of es))
new_entry k [] h = tt
new_entry k (e ∷ es) h = (λ same. false≢true (sym h.0 ∙ (bytes_eq-Decides k e.0).1 same), new_entry k es h.1)

-- a table's keys are distinct
pub table_distinct : (es : List (List ℕ × Short)) → std.IsDistinct (pointwise nat_eq) (keys_of es) → IsDistinct (keys (pairs_of es))
unfolding std.IsDistinct
table_distinct [] h = tt
table_distinct (e ∷ es) h = (new_entry e.0 es h.0, table_distinct es h.1)

-- among distinct keys each is new to those before it
pub new_before : (ps qs : List (Pair Short)) (p : Pair Short) → IsDistinct (keys (ps ++ p ∷ qs)) → IsNew p.key (keys ps)
new_before [] qs p h = tt
new_before (o ∷ ps) qs p h = (λ e. among o.key ps qs p h.0 (sym e), new_before ps qs p h.1)
