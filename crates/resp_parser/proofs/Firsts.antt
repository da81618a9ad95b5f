-- The first entries of keys, of one entry more.
use Rattle.std.proofs.Common.{◌≡◌, ℕ, Bool, true, false, not, if◌then◌else◌, List, [], ◌∷◌, ◌++◌, filter, Option, None, Some, refl, sym, ap, ◌∙◌, append-nil}
use Rattle.std.specs.Prelude.{bytes_eq}
use Rattle.std.specs.Bool.{Decides}
use Rattle.std.proofs.lemmas.Slice.Eq.{bytes_eq-Decides}
use Rattle.texts.specs.declared.pairs.Pair.{Pair}
use Rattle.texts.specs.Keys.{keys, value_at, IsNew}
use Rattle.resp_parser.specs.Headers.{firsts, unless_there, with_first}

differs : (a b : List ℕ) → (a ≡ b → ⊥) → bytes_eq a b ≡ false
differs a b other = elim (bytes_eq a b) as (λ t. Decides t (a ≡ b) → t ≡ false) [ true ↦ λ d. absurd (other (d.0 refl)) | false ↦ λ d. refl ] (bytes_eq-Decides a b)

module _ {X : Type 0} where
  pub new-key : (k : List ℕ) (ps : List (Pair X)) → value_at k ps ≡ None → IsNew k (keys ps)
  new-key k [] none = tt
  new-key k (p ∷ ps) none =
      elim (bytes_eq p.key k) as (λ b. Decides b (p.key ≡ k) → (if b then Some p.value else value_at k ps) ≡ None → IsNew k (keys (p ∷ ps))) [
        | true ↦ (λ d e. absurd (cc))
        | false ↦ (λ d e. ((λ same. let t = d.1 (sym same) in absurd (cc)), new-key k ps e))
      ] (bytes_eq-Decides p.key k) none

  abbrev other : List ℕ → Pair X → Bool
  other k q = not (bytes_eq q.key k)

  kept : (k : List ℕ) (ps : List (Pair X)) (p : Pair X) → bytes_eq p.key k ≡ false → filter (other k) (ps ++ p ∷ []) ≡ filter (other k) ps ++ p ∷ []
  kept k [] p e = ap (λ b. if not b then p ∷ [] else []) e
  kept k (q ∷ ps) p e = by (bytes_eq q.key k) (kept k ps p e)
    where
      by : (b : Bool) → filter (other k) (ps ++ p ∷ []) ≡ filter (other k) ps ++ p ∷ [] → (if not b then q ∷ filter (other k) (ps ++ p ∷ []) else filter (other k) (ps ++ p ∷ [])) ≡ (if not b then q ∷ filter (other k) ps else filter (other k) ps) ++ p ∷ []
      by true ih = ih
      by false ih = ap (λ xs. q ∷ xs) ih

  gone : (k : List ℕ) (ps : List (Pair X)) (p : Pair X) → bytes_eq p.key k ≡ true → filter (other k) (ps ++ p ∷ []) ≡ filter (other k) ps
  gone k [] p e = ap (λ b. if not b then p ∷ [] else []) e
  gone k (q ∷ ps) p e = ap (λ xs. if not (bytes_eq q.key k) then q ∷ xs else xs) (gone k ps p e)

  seen : (k j : List ℕ) (ps : List (Pair X)) → (k ≡ j → ⊥) → value_at j (filter (other k) ps) ≡ value_at j ps
  seen k j [] differ = refl
  seen k j (q ∷ ps) differ =
      elim (bytes_eq q.key k) as (λ b. Decides b (q.key ≡ k) → value_at j (if not b then q ∷ filter (other k) ps else filter (other k) ps) ≡ value_at j (q ∷ ps)) [
        | true ↦ (λ d. seen k j ps differ ∙ sym (ap (λ b. if b then Some q.value else value_at j ps) (differs q.key j (λ same. differ (sym (d.0 refl) ∙ same)))))
        | false ↦ (λ d. ap (λ o. if bytes_eq q.key j then Some q.value else o) (seen k j ps differ))
      ] (bytes_eq-Decides q.key k)

  abbrev Grown : List (Pair X) → Pair X → Type 0
  Grown xs p =
      (value_at p.key (firsts xs) ≡ None → firsts (xs ++ p ∷ []) ≡ firsts xs ++ p ∷ [])
      × ((v : X) → value_at p.key (firsts xs) ≡ Some v → firsts (xs ++ p ∷ []) ≡ firsts xs)

  without : (k : List ℕ) (xs : List (Pair X)) (p : Pair X) (o : Option X) → value_at p.key (firsts xs) ≡ o → Grown xs p → bytes_eq p.key k ≡ true → filter (other k) (firsts (xs ++ p ∷ [])) ≡ filter (other k) (firsts xs)
  without k xs p None is both e = ap (filter (other k)) (both.0 is) ∙ gone k (firsts xs) p e
  without k xs p (Some v) is both e = ap (filter (other k)) (both.1 v is)

  firsts-grown : (xs : List (Pair X)) (p : Pair X) → Grown xs p
  firsts-grown [] p = ((λ e. refl), (λ v e. absurd (cc)))
  firsts-grown (x ∷ xs) p =
      let both = firsts-grown xs p in
      elim (bytes_eq x.key p.key) as (λ b. Decides b (x.key ≡ p.key)
      → ((if b then Some x.value else value_at p.key (filter (other x.key) (firsts xs))) ≡ None → firsts (x ∷ xs ++ p ∷ []) ≡ firsts (x ∷ xs) ++ p ∷ [])
      × ((v : X) → (if b then Some x.value else value_at p.key (filter (other x.key) (firsts xs))) ≡ Some v → firsts (x ∷ xs ++ p ∷ []) ≡ firsts (x ∷ xs))) [
        | true ↦ (λ d. (
          (λ e. absurd (cc)),
          (λ v e. ap (λ ys. x ∷ ys) (without x.key xs p (value_at p.key (firsts xs)) refl both ((bytes_eq-Decides p.key x.key).1 (sym (d.0 refl))))),
        ))
        | false ↦ (λ d.
            let apart = differs p.key x.key (λ same. let t = d.1 (sym same) in absurd (cc)) in
            let same = seen x.key p.key (firsts xs) (λ e. let t = d.1 e in absurd (cc)) in (
              (λ e. ap (λ ys. x ∷ ys) (ap (filter (other x.key)) (both.0 (sym same ∙ e)) ∙ kept x.key (firsts xs) p apart)),
              (λ v e. ap (λ ys. x ∷ filter (other x.key) ys) (both.1 v (sym same ∙ e))),
            ))
      ] (bytes_eq-Decides x.key p.key)

  one-more : (xs : List (Pair X)) (p : Pair X) (o : Option X) → value_at p.key (firsts xs) ≡ o → firsts (xs ++ p ∷ []) ≡ unless_there o (firsts xs) p
  one-more xs p None e = (firsts-grown xs p).0 e
  one-more xs p (Some v) e = (firsts-grown xs p).1 v e

  pub firsts-more : (xs : List (Pair X)) (p : Pair X) → firsts (xs ++ p ∷ []) ≡ with_first (firsts xs) p
  firsts-more xs p = one-more xs p (value_at p.key (firsts xs)) refl
