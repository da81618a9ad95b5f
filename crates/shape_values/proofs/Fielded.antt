-- Fields that are made one after another, whose keys stay distinct.
use Rattle.std.proofs.Common.{◌≡◌, ℕ, ◌+◌, ◌<◌, List, [], ◌∷◌, ◌++◌, length, get_or, take, drop, sym, ap, subst, ◌∙◌, append_assoc}
use Rattle.std.proofs.lemmas.List.{map-append, take_more, get_or-map, length-map, at_drop_more}
use Rattle.texts.specs.declared.pairs.Pair.{Pair}
use Rattle.texts.specs.Keys.{keys, IsNew, IsDistinct}
use Rattle.typed_value.specs.Fits.{with_values}
use Rattle.typed_value.proofs.Gathered.{new-before}
use Rattle.shape_values.specs.Faults.{field}

module _ {X Y : Type 0} (ps : List (Pair X)) (made : List (Pair Y)) (i : ℕ) (p : Pair X) (within : i < length ps) (is : p ≡ get_or ps i p) (keyed : keys made ≡ take i (keys ps)) where
  key-within : i < length (keys ps)
  key-within = rw length-map within

  key-is : p.key ≡ get_or (keys ps) i p.key
  key-is = ap (λ q. q.key) is ∙ sym (get_or-map (λ q. q.key) ps i p p.key within)

  -- the next key is new
  pub key-new : IsDistinct (keys ps) → IsNew p.key (keys made)
  key-new distinct = subst (IsNew p.key) (sym keyed) (new-before (keys ps) i p.key key-within key-is distinct)

  pub key-more : (v : Y) → keys (made ++ field p.key v ∷ []) ≡ take (i + 1) (keys ps)
  key-more v =
      map-append (λ q. q.key) made (field p.key v ∷ []) ∙ ap (λ ks. ks ++ p.key ∷ []) keyed
      ∙ sym (take_more (keys ps) i p.key key-within ∙ ap (λ k. take i (keys ps) ++ k ∷ []) (sym key-is))

module _ {X Y : Type 0} (f : X → Y) (ps : List (Pair X)) (made : List (Pair Y)) (i : ℕ) where
  -- a field that is kept stands behind those before it
  pub kept-more : (p : Pair X) (v : Y) → i < length ps → p ≡ get_or ps i p → v ≡ f p.value
      → made ++ with_values f (drop i ps) ≡ with_values f ps → (made ++ field p.key v ∷ []) ++ with_values f (drop (i + 1) ps) ≡ with_values f ps
  kept-more p v within is value before =
      append_assoc made (field p.key v ∷ []) (with_values f (drop (i + 1) ps))
      ∙ ap (λ x. made ++ field p.key x ∷ with_values f (drop (i + 1) ps)) value
      ∙ ap (λ q. made ++ field q.key (f q.value) ∷ with_values f (drop (i + 1) ps)) is
      ∙ ap (λ qs. made ++ qs) (sym (at_drop_more (with_values f) ps i p within)) ∙ before
