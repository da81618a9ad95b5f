-- How `Pairs` holds its values: as a list of pairs, each with its key beside the value. So `Doc`
-- may hold pairs of documents, with distinct keys at every level.
use mathlib.Core.Path.{◌≡◌, refl, sym, subst, ap}
use mathlib.Core.List.{List, [], ◌∷◌, map}
use mathlib.Core.Former.{Former, this, const, pair, list, via}
use mathlib.Core.HLevel.{×_prop, ¬_prop, Unit-prop}
use Prim.Native.Nat.{ℕ}
use base.Stored.{code_map, gcons}
use denote.RattleType.{RattleType}
use denote.HoleLaws.{Alike}
use denote.HolePlaces.{Recodes, struct_places, laid}
use denote.Hole.Fix.{over}
use denote.Param.Weighed.{Weighed, w_list, w_via, w_pair, w_const}
use denote.Model.Placed.{view_places}
use Rattle.std.specs.Coded.{coded_list, coded_ℕ}
use Rattle.texts.specs.formers.list.List as list_of
use Rattle.texts.specs.declared.pairs.Pair.{Pair}
use Rattle.texts.specs.contracts.pairs.Pair as pair_of
use Rattle.texts.specs.declared.pairs.Pairs.TheInside.{Inside}
use Rattle.texts.specs.declared.pairs.Pairs.TheView.{view, invariant}
use Rattle.texts.specs.contracts.pairs.Pairs as C
use Rattle.texts.specs.contracts.pairs.Pairs.TheInside as I
use Rattle.texts.specs.Keys.{keys, IsNew, IsDistinct}

-- one pair, whose key is the same for any values
abbrev entry : Former {0} → Former {0}
entry g = via (pair (const (List ℕ)) g) (λ X. Pair (g.Of X)) (λ X p. (p.key, p.value)) (λ X v. record { key = v.0; value = v.1 }) (λ X p. refl) (λ X v. refl)

abbrev pub the_former : Former {0} → Former {0}
the_former g = list (entry g)

abbrev pub the_weighed : {g : Former {0}} → Weighed g → Weighed (the_former g)
the_weighed {g} w = w_list (w_via (w_pair (w_const (List ℕ)) w) (λ X. Pair (g.Of X)) (λ X p. (p.key, p.value)) (λ X v. record { key = v.0; value = v.1 }) (λ X p. refl) (λ X v. refl))

pub the_empty : List (Pair ⊥)
the_empty = []

-- the pair with the value that a function gives
abbrev onto : {X Y : Type 0} → (X → Y) → Pair X → Pair Y
onto h p = record { key = p.key; value = h p.value }

keys-same : {X Y : Type 0} (h : X → Y) (ps : List (Pair X)) → keys (map (onto h) ps) ≡ keys ps
keys-same h [] = refl
keys-same h (p ∷ ps) = ap (λ ks. p.key ∷ ks) (keys-same h ps)

IsNew-prop : (k : List ℕ) (ks : List (List ℕ)) → IsProp (IsNew k ks)
IsNew-prop k [] = Unit-prop
IsNew-prop k (j ∷ js) = ×_prop ¬_prop (IsNew-prop k js)

IsDistinct-prop : (ks : List (List ℕ)) → IsProp (IsDistinct ks)
IsDistinct-prop [] = Unit-prop
IsDistinct-prop (k ∷ ks) = ×_prop (IsNew-prop k ks) (IsDistinct-prop ks)

-- the struct's one field, a list of pairs, as a former
abbrev inside : Former {0}
inside = via (list (entry this)) Inside (λ X s. s.items) (λ X items. record { items = items }) (λ X s. refl) (λ X items. refl)

module _ (R S : RattleType) (h : R.Denot → S.Denot) where
  pair_places : Alike R S h → Alike (pair_of.the_row R) (pair_of.the_row S) (onto h)
  pair_places alike =
      struct_places (pair_of.the_type R) (pair_of.the_type S) ((λ key. key), (h, tt)) (onto h) (λ d. refl) refl
      ((refl, (λ n. refl, λ n. refl)), (laid _ _ _ alike, tt))

  pub the_places : Alike R S h → Alike (C.the_row R) (C.the_row S) ((the_former this).map R.Denot S.Denot h)
  the_places alike =
      let lists = list_of.the_places (pair_of.the_row R) (pair_of.the_row S) (onto h) (pair_places alike) in
      view_places inside (list (entry this)) view (λ X Y f s. refl) (λ X s. refl) R.Denot S.Denot h (C.the_row R).coded (C.the_row S).coded
      (invariant R.Denot) (invariant S.Denot) (λ s. IsDistinct-prop _) (λ s. IsDistinct-prop _)
      (λ s e. subst IsDistinct (sym (keys-same h s.items)) e) (λ s e. subst IsDistinct (keys-same h s.items) e)
      (over (I.the_row R)) (over (I.the_row S))
      (struct_places (I.the_type R) (I.the_type S) (map (onto h), tt) _ (λ d. refl) refl (laid _ _ _ lists, tt))

  pub the_codes_placed : Recodes R S h → Recodes (C.the_row R) (C.the_row S) ((the_former this).map R.Denot S.Denot h)
  the_codes_placed recodes ps =
      sym (code_map (λ p. gcons ((coded_list coded_ℕ).code p.key) (R.coded.code p.value)) (λ p. gcons ((coded_list coded_ℕ).code p.key) (S.coded.code p.value)) (onto h)
      (λ p. sym (ap (gcons ((coded_list coded_ℕ).code p.key)) (recodes p.value))) ps)
