-- A value found at the place of its pair.
use Rattle.std.proofs.Common.{◌≡◌, ℕ, zero, suc, true, false, if◌then◌else◌, List, [], ◌∷◌, Some, refl, sym, ap, ◌∙◌}
use Rattle.std.specs.List.{slice_get}
use Rattle.std.specs.Str.{bytes_eq}
use Rattle.std.proofs.lemmas.Option.{none-some, same_Some}
use Rattle.std.proofs.lemmas.Slice.Eq.{bytes_eq-Decides}
use Rattle.texts.specs.declared.pairs.Pair.{Pair}
use Rattle.texts.specs.Keys.{keys, value_at, IsNew, IsDistinct}

new-at : {T : Type 0} (k : List ℕ) (ps : List (Pair T)) (n : ℕ) (p : Pair T) → IsNew k (keys ps) → slice_get ps n ≡ Some p → k ≡ p.key → ⊥
new-at k [] n p new e same = none-some p e
new-at k (q ∷ ps) zero p new e same = new.0 (same ∙ ap (λ r. r.key) (sym (same_Some q p e)))
new-at k (q ∷ ps) (suc n) p new e same = new-at k ps n p new.1 e same

-- among distinct keys, the value at a key is that of the pair with it
pub value_at-place : {T : Type 0} (ps : List (Pair T)) (n : ℕ) (p : Pair T) → IsDistinct (keys ps) → slice_get ps n ≡ Some p → value_at p.key ps ≡ Some p.value
value_at-place [] n p distinct e = absurd (none-some p e)
value_at-place (q ∷ ps) zero p distinct e =
    let same = same_Some q p e in
    let found = (bytes_eq-Decides q.key p.key).1 (ap (λ r. r.key) same) in
    ap (λ b. if b then Some q.value else value_at p.key ps) found ∙ ap (λ r. Some r.value) same
value_at-place (q ∷ ps) (suc n) p distinct e =
    elim (bytes_eq q.key p.key) as (λ b. (b ≡ true → q.key ≡ p.key) → (if b then Some q.value else value_at p.key ps) ≡ Some p.value) [
      | true ↦ (λ same. absurd (new-at q.key ps n p distinct.0 e (same refl)))
      | false ↦ (λ same. value_at-place ps n p distinct.1 e)
    ]
    (bytes_eq-Decides q.key p.key).0
