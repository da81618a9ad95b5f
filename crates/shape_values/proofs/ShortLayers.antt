-- The values of shorthand trees, layer by layer.
use Rattle.std.proofs.Common.{◌≡◌, ℕ, true, false, List, [], ◌∷◌, map, None, Some, Ok, refl, sym, ap, ◌∙◌, subst, rules}
use Rattle.std.specs.Prelude.{slice_get}
use Rattle.std.proofs.lemmas.Bool.{cond-true, cond-false}
use Rattle.shorthand.specs.declared.short.Short.{Short, map-Short, roll-Short, the_lemmas}
use Rattle.shorthand.specs.declared.short.Short.TheVariants.{Word, Items, Fields}
use Rattle.shorthand.specs.declared.short.Short.TheOpen.{Short-F}
use Rattle.shorthand.specs.declared.short.Short.TheFolds.{fold-roll-Short, ind-Short}
use Rattle.service_model.specs.declared.shape.Shape.{Shape}
use Rattle.texts.specs.declared.pairs.Pair.{Pair}
use Rattle.typed_value.specs.declared.typed.Typed.{Typed}
use Rattle.typed_value.specs.declared.typed.Typed.TheVariants as typed
use Rattle.typed_value.specs.Fits.{with_values}
use Rattle.typed_value.specs.Kinds.{is_list}
use Rattle.shape_values.specs.declared.place.Place.{Place}
use Rattle.shape_values.specs.Faults.{field}
use Rattle.shape_values.specs.Instants.{Instants}
use Rattle.shape_values.specs.Kept.{kept_short, tree_step}
use Rattle.shape_values.specs.Places.{takes_json, holds_lists}
use Rattle.shape_values.specs.ShortValues.{Meant, meant, meant_step, layer, as_it_is, shape_value, short_value, tree_value, elements_value, list_of_one, one_value}

module _ (instants : Instants) (shapes : List Shape) where
  abbrev Kept : Short → Type 0
  Kept t = (meant instants shapes t).kept ≡ kept_short t

  abbrev Known : Type 0
  Known = (t : Short) × Kept t

  abbrev plain : Pair Known → Pair Short
  plain p = record { key = p.key; value = p.value.0 }

  kept_items : (es : List Known) → map (λ m. m.kept) (map (meant instants shapes) (map (λ e. e.0) es)) ≡ map kept_short (map (λ e. e.0) es)
  kept_items [] = refl
  kept_items (e ∷ es) = ap (λ v. v ∷ map (λ m. m.kept) (map (meant instants shapes) (map (λ k. k.0) es))) e.1 ∙ ap (λ vs. kept_short e.0 ∷ vs) (kept_items es)

  kept_fields : (ps : List (Pair Known)) → with_values (λ m. m.kept) (with_values (meant instants shapes) (map plain ps)) ≡ with_values kept_short (map plain ps)
  kept_fields [] = refl
  kept_fields (p ∷ ps) =
      ap (λ (v : Typed). field p.key v ∷ with_values (λ m. m.kept) (with_values (meant instants shapes) (map plain ps))) p.value.1
      ∙ ap (λ (qs : List (Pair Typed)). field p.key (kept_short p.value.0) ∷ qs) (kept_fields ps)

  kept-layer : (y : Short-F Known)
      → as_it_is (map-Short Short Meant (meant instants shapes) (map-Short Known Short (λ e. e.0) y)) ≡ tree_step (map-Short Short Typed kept_short (map-Short Known Short (λ e. e.0) y))
  kept-layer (Short-F.Word t) = refl
  kept-layer (Short-F.Items es) = ap typed.Items (kept_items es)
  kept-layer (Short-F.Fields ps) = ap typed.Fields (kept_fields ps)

  kept-rolled : (y : Short-F Known) → Kept (roll-Short (map-Short Known Short (λ e. e.0) y))
  kept-rolled y =
      ap (λ m. m.kept) (fold-roll-Short Meant (meant_step instants shapes) (map-Short Known Short (λ e. e.0) y)) ∙ kept-layer y
      ∙ sym (fold-roll-Short Typed tree_step (map-Short Known Short (λ e. e.0) y))

  -- what is kept of a tree
  pub kept-same : (t : Short) → (meant instants shapes t).kept ≡ kept_short t
  kept-same = ind-Short Kept (λ x y is. subst (λ z. Kept (roll-Short z)) is (kept-rolled y))

  by-layer : (tree : Short) → meant instants shapes tree ≡ meant_step instants shapes (layer instants shapes tree)
  by-layer tree = search (rules, the_lemmas)

  pub layer-kept : (tree : Short) → as_it_is (layer instants shapes tree) ≡ kept_short tree
  layer-kept tree = ap (λ m. m.kept) (sym (by-layer tree)) ∙ kept-same tree

  layer-Word : (t : List ℕ) → layer instants shapes (Word t) ≡ Short-F.Word t
  layer-Word t = search (rules, the_lemmas)

  layer-Items : (trees : List Short) → layer instants shapes (Items trees) ≡ Short-F.Items (map (meant instants shapes) trees)
  layer-Items trees = search (rules, the_lemmas)

  layer-Fields : (ps : List (Pair Short)) → layer instants shapes (Fields ps) ≡ Short-F.Fields (with_values (meant instants shapes) ps)
  layer-Fields ps = search (rules, the_lemmas)

  module _ (place : Place) where
    pub no-shape : (tree : Short) → None ≡ slice_get shapes place.shape.0 → short_value instants shapes place tree ≡ Ok (kept_short tree)
    no-shape tree is =
        ap (λ m. m.at place) (by-layer tree) ∙ ap (shape_value instants shapes (layer instants shapes tree) place) (sym is) ∙ ap Ok (layer-kept tree)

    module _ (shape : Shape) (is : Some shape ≡ slice_get shapes place.shape.0) (takes : takes_json place shape ≡ false) where
      at-shape : (tree : Short) → short_value instants shapes place tree ≡ shape_value instants shapes (layer instants shapes tree) place (Some shape)
      at-shape tree = ap (λ m. m.at place) (by-layer tree) ∙ ap (shape_value instants shapes (layer instants shapes tree) place) (sym is)

      pub tree-due : (tree : Short) → is_list shape.kind ≡ false → short_value instants shapes place tree ≡ tree_value instants shape (layer instants shapes tree)
      tree-due tree other = at-shape tree ∙ cond-false (takes_json place shape) _ _ takes ∙ cond-false (is_list shape.kind) _ _ other

      module _ (list : is_list shape.kind ≡ true) (flat : holds_lists shapes shape ≡ false) where
        list-due : (tree : Short) → short_value instants shapes place tree ≡ elements_value instants shapes shape.item (layer instants shapes tree)
        list-due tree =
            at-shape tree ∙ cond-false (takes_json place shape) _ _ takes ∙ cond-true (is_list shape.kind) _ _ list ∙ cond-false (holds_lists shapes shape) _ _ flat

        pub items-due : (trees : List Short) → short_value instants shapes place (Items trees) ≡ elements_value instants shapes shape.item (Short-F.Items (map (meant instants shapes) trees))
        items-due trees = list-due (Items trees) ∙ ap (elements_value instants shapes shape.item) (layer-Items trees)

        pub word-due : (t : List ℕ) → short_value instants shapes place (Word t) ≡ list_of_one (one_value instants shapes (layer instants shapes (Word t)) shape.item)
        word-due t =
            list-due (Word t) ∙ ap (elements_value instants shapes shape.item) (layer-Word t)
            ∙ ap (λ parts. list_of_one (one_value instants shapes parts shape.item)) (sym (layer-Word t))

        pub fields-due : (ps : List (Pair Short)) → short_value instants shapes place (Fields ps) ≡ list_of_one (one_value instants shapes (layer instants shapes (Fields ps)) shape.item)
        fields-due ps =
            list-due (Fields ps) ∙ ap (elements_value instants shapes shape.item) (layer-Fields ps)
            ∙ ap (λ parts. list_of_one (one_value instants shapes parts shape.item)) (sym (layer-Fields ps))
