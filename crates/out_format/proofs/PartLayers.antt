-- The layers of a document's parts are those of the document.
use Rattle.std.proofs.Common.{◌≡◌, ℕ, ◌||◌, List, [], ◌∷◌, map, Option, refl, ap, ◌∙◌}
use Rattle.std.specs.List.{list_any}
use Rattle.json_doc.specs.declared.doc.Doc.{Doc, out-Doc, map-Doc}
use Rattle.json_doc.specs.declared.doc.Doc.TheOpen.{Doc-F}
use Rattle.json_doc.specs.declared.doc.Doc.TheFolds.{fold_out-Doc}
use Rattle.texts.specs.declared.pairs.Pair.{Pair}
use Rattle.out_format.specs.Layers.{layer_of, scalar_of, scalar_text, is_object}
use Rattle.out_format.specs.Parts.{PartOf, layer_step, has_object, part_step, folded}
use Rattle.out_format.proofs.Layering.{on_value, text_kept, object_kept}

module _ {A B : Type 0} (whole : Doc-F (PartOf A B) → A) (inner : Doc-F (PartOf A B) → B) where
  abbrev part_of : Doc → PartOf A B
  part_of = folded whole inner

  -- one layer of a document, with its parts in place of its items or members
  abbrev pub parts_in : Doc → Doc-F (PartOf A B)
  parts_in d = map-Doc Doc (PartOf A B) part_of (out-Doc d)

  abbrev text_in : PartOf A B → Option (List ℕ)
  text_in part = scalar_text part.layer

  pub part-out : (d : Doc) → part_of d ≡ part_step whole inner (parts_in d)
  part-out d = fold_out-Doc (PartOf A B) (part_step whole inner) d

  pub text-same : (d : Doc) → scalar_text (part_of d).layer ≡ scalar_of d
  text-same d = ap text_in (part-out d) ∙ text_kept text_in (parts_in d) ∙ text_kept part_of (out-Doc d)

  pub object-same : (d : Doc) → is_object (part_of d).layer ≡ is_object (out-Doc d)
  object-same d = ap (λ part. is_object part.layer) (part-out d) ∙ object_kept text_in (parts_in d) ∙ object_kept part_of (out-Doc d)

  texts-same : (ds : List Doc) → map text_in (map part_of ds) ≡ map scalar_of ds
  texts-same [] = refl
  texts-same (d ∷ ds) = ap (λ t. t ∷ map text_in (map part_of ds)) (text-same d) ∙ ap (λ ts. scalar_of d ∷ ts) (texts-same ds)

  member_text : (p : Pair Doc) → on_value text_in (on_value part_of p) ≡ on_value scalar_of p
  member_text p = ap (λ t. record { key = p.key; value = t }) (text-same p.value)

  member-texts-same : (ps : List (Pair Doc)) → map (on_value text_in) (map (on_value part_of) ps) ≡ map (on_value scalar_of) ps
  member-texts-same [] = refl
  member-texts-same (p ∷ ps) =
      ap (λ t. t ∷ map (on_value text_in) (map (on_value part_of) ps)) (member_text p) ∙ ap (λ ts. on_value scalar_of p ∷ ts) (member-texts-same ps)

  pub layer-at : (x : Doc-F Doc) → layer_step (map-Doc Doc (PartOf A B) part_of x) ≡ map-Doc Doc (Option (List ℕ)) scalar_of x
  layer-at Doc-F.Null = refl
  layer-at (Doc-F.Flag flag) = refl
  layer-at (Doc-F.Number n) = refl
  layer-at (Doc-F.Str t) = refl
  layer-at (Doc-F.Items ds) = ap Doc-F.Items (texts-same ds)
  layer-at (Doc-F.Fields ps) = ap Doc-F.Fields (member-texts-same ps)

  pub layer-same : (d : Doc) → (part_of d).layer ≡ layer_of d
  layer-same d = ap (λ part. part.layer) (part-out d) ∙ layer-at (out-Doc d)

  pub layers-same : (ds : List Doc) → map (λ (part : PartOf A B). part.layer) (map part_of ds) ≡ map layer_of ds
  layers-same [] = refl
  layers-same (d ∷ ds) = ap (λ l. l ∷ map (λ (part : PartOf A B). part.layer) (map part_of ds)) (layer-same d) ∙ ap (λ ls. layer_of d ∷ ls) (layers-same ds)

  pub has_object-same : (ds : List Doc) → has_object (map part_of ds) ≡ list_any (λ d. is_object (out-Doc d)) ds
  has_object-same [] = refl
  has_object-same (d ∷ ds) =
      ap (λ b. b || has_object (map part_of ds)) (object-same d) ∙ ap (λ b. is_object (out-Doc d) || b) (has_object-same ds)
