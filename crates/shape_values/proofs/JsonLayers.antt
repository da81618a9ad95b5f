-- The values of documents, layer by layer.
use Rattle.std.proofs.Common.{◌≡◌, ℕ, Bool, true, false, List, [], ◌∷◌, map, None, Some, Ok, Err, refl, sym, ap, ◌∙◌, subst, rules}
use Rattle.std.specs.Prelude.{slice_get, if◌then◌else◌}
use Rattle.std.proofs.lemmas.Bool.{cond-true, cond-false}
use Rattle.json_doc.specs.declared.decimal.Decimal.{Decimal}
use Rattle.json_doc.specs.declared.doc.Doc.{Doc, out-Doc, map-Doc, roll-Doc, the_lemmas}
use Rattle.json_doc.specs.declared.doc.Doc.TheVariants.{Null, Flag, Number, Str, Items, Fields, rolls-Null, rolls-Flag, rolls-Number, rolls-Str, rolls-Items, rolls-Fields}
use Rattle.json_doc.specs.declared.doc.Doc.TheOpen.{Doc-F}
use Rattle.json_doc.specs.declared.doc.Doc.TheFolds.{fold-roll-Doc, ind-Doc}
use Rattle.service_model.specs.declared.shape.Shape.{Shape}
use Rattle.texts.specs.declared.pairs.Pair.{Pair}
use Rattle.typed_value.specs.declared.typed.Typed.TheVariants as typed
use Rattle.typed_value.specs.Fits.{with_values}
use Rattle.shape_values.specs.declared.place.Place.{Place}
use Rattle.shape_values.specs.Faults.{here}
use Rattle.shape_values.specs.Instants.{Instants}
use Rattle.shape_values.specs.declared.fault.ValueKind.TheVariants.{Float}
use Rattle.shape_values.specs.Inside.{list_due, object_due}
use Rattle.shape_values.specs.JsonValues.{Meant, whole_of, meant, meant_step, item_value, member_value, items_value, fields_value, text_value, number_value, kind_value, shape_value, document_value}
use Rattle.shape_values.specs.Kept.{kept_document}
use Rattle.shape_values.specs.Places.{takes_json, is_float}
use Rattle.typed_value.specs.Kinds.{is_list, is_map, is_structure}
use Rattle.typed_value.specs.Places.{member_named}

abbrev pub pair_with : {T : Type 0} → List ℕ → T → Pair T
pair_with key value = record { key = key; value = value }

module _ (instants : Instants) (shapes : List Shape) where
  abbrev Whole : Doc → Type 0
  Whole d = (meant instants shapes d).doc ≡ d

  abbrev Known : Type 0
  Known = (d : Doc) × Whole d

  abbrev meant_known : Known → Meant
  meant_known e = meant instants shapes e.0

  abbrev plain : Pair Known → Pair Doc
  plain p = record { key = p.key; value = p.value.0 }

  abbrev meant_known_pair : Pair Known → Pair Meant
  meant_known_pair p = record { key = p.key; value = meant instants shapes p.value.0 }

  known_items : (es : List Known) → map (λ t. t.doc) (map meant_known es) ≡ map (λ e. e.0) es
  known_items [] = refl
  known_items (e ∷ es) = ap (λ d. d ∷ map (λ t. t.doc) (map meant_known es)) e.1 ∙ ap (λ ds. e.0 ∷ ds) (known_items es)

  known_fields : (ps : List (Pair Known)) → with_values (λ t. t.doc) (map meant_known_pair ps) ≡ map plain ps
  known_fields [] = refl
  known_fields (p ∷ ps) =
      ap (λ (d : Doc). pair_with p.key d ∷ with_values (λ t. t.doc) (map meant_known_pair ps)) p.value.1
      ∙ ap (λ (qs : List (Pair Doc)). pair_with p.key p.value.0 ∷ qs) (known_fields ps)

  whole : (y : Doc-F Known) → whole_of (map-Doc Known Meant meant_known y) ≡ roll-Doc (map-Doc Known Doc (λ e. e.0) y)
  whole Doc-F.Null = sym rolls-Null
  whole (Doc-F.Flag flag) = sym (rolls-Flag flag)
  whole (Doc-F.Number n) = sym (rolls-Number n)
  whole (Doc-F.Str t) = sym (rolls-Str t)
  whole (Doc-F.Items es) = ap Items (known_items es) ∙ sym (rolls-Items (map (λ e. e.0) es))
  whole (Doc-F.Fields ps) = ap Fields (known_fields ps) ∙ sym (rolls-Fields (map plain ps))

  twice_items : (es : List Known) → map (meant instants shapes) (map (λ e. e.0) es) ≡ map meant_known es
  twice_items [] = refl
  twice_items (e ∷ es) = ap (λ ts. meant_known e ∷ ts) (twice_items es)

  twice_fields : (ps : List (Pair Known)) → with_values (meant instants shapes) (map plain ps) ≡ map meant_known_pair ps
  twice_fields [] = refl
  twice_fields (p ∷ ps) = ap (λ qs. meant_known_pair p ∷ qs) (twice_fields ps)

  twice : (y : Doc-F Known) → map-Doc Doc Meant (meant instants shapes) (map-Doc Known Doc (λ e. e.0) y) ≡ map-Doc Known Meant meant_known y
  twice Doc-F.Null = refl
  twice (Doc-F.Flag flag) = refl
  twice (Doc-F.Number n) = refl
  twice (Doc-F.Str t) = refl
  twice (Doc-F.Items es) = ap Doc-F.Items (twice_items es)
  twice (Doc-F.Fields ps) = ap Doc-F.Fields (twice_fields ps)

  layer-whole : (y : Doc-F Known) → Whole (roll-Doc (map-Doc Known Doc (λ e. e.0) y))
  layer-whole y =
      ap (λ t. t.doc) (fold-roll-Doc Meant (meant_step instants shapes) (map-Doc Known Doc (λ e. e.0) y))
      ∙ ap whole_of (twice y) ∙ whole y

  -- what is meant is the document
  pub same : (d : Doc) → (meant instants shapes d).doc ≡ d
  same = ind-Doc Whole (λ x y is. subst (λ z. Whole (roll-Doc z)) is (layer-whole y))

  -- the parts of a document, each with its value where it stands
  abbrev pub parts_of : Doc-F Doc → Doc-F Meant
  parts_of Doc-F.Null = Doc-F.Null
  parts_of (Doc-F.Flag flag) = Doc-F.Flag flag
  parts_of (Doc-F.Number n) = Doc-F.Number n
  parts_of (Doc-F.Str t) = Doc-F.Str t
  parts_of (Doc-F.Items ds) = Doc-F.Items (map (meant instants shapes) ds)
  parts_of (Doc-F.Fields ps) = Doc-F.Fields (with_values (meant instants shapes) ps)

  abbrev pub layer : Doc → Doc-F Meant
  layer d = parts_of (out-Doc d)

  by-layer : (d : Doc) → meant instants shapes d ≡ meant_step instants shapes (layer d)
  by-layer d = search (rules, the_lemmas)

  pub whole-layer : (d : Doc) → whole_of (layer d) ≡ d
  whole-layer d = ap (λ m. m.doc) (sym (by-layer d)) ∙ same d

  kept-Items : (ds : List Doc) → kept_document (Items ds) ≡ typed.Items (map kept_document ds)
  kept-Items ds = search (rules, the_lemmas)

  kept-Fields : (ps : List (Pair Doc)) → kept_document (Fields ps) ≡ typed.Fields (with_values kept_document ps)
  kept-Fields ps = search (rules, the_lemmas)

  layer-Items : (ds : List Doc) → layer (Items ds) ≡ Doc-F.Items (map (meant instants shapes) ds)
  layer-Items ds = search (rules, the_lemmas)

  layer-Fields : (ps : List (Pair Doc)) → layer (Fields ps) ≡ Doc-F.Fields (with_values (meant instants shapes) ps)
  layer-Fields ps = search (rules, the_lemmas)

  layer-Str : (t : List ℕ) → layer (Str t) ≡ Doc-F.Str t
  layer-Str t = search (rules, the_lemmas)

  layer-Number : (n : Decimal) → layer (Number n) ≡ Doc-F.Number n
  layer-Number n = search (rules, the_lemmas)

  layer-Flag : (flag : Bool) → layer (Flag flag) ≡ Doc-F.Flag flag
  layer-Flag flag = search (rules, the_lemmas)

  layer-Null : layer Null ≡ Doc-F.Null
  layer-Null = search (rules, the_lemmas)

  module _ (place : Place) where
    pub no-shape : (d : Doc) → None ≡ slice_get shapes place.shape.0 → document_value instants shapes place d ≡ Ok (kept_document d)
    no-shape d is = ap (λ m. m.at place) (by-layer d) ∙ ap (shape_value instants (layer d) place) (sym is) ∙ ap (λ x. Ok (kept_document x)) (whole-layer d)

    module _ (shape : Shape) (is : Some shape ≡ slice_get shapes place.shape.0) where
      at-shape : (d : Doc) → document_value instants shapes place d ≡ shape_value instants (layer d) place (Some shape)
      at-shape d = ap (λ m. m.at place) (by-layer d) ∙ ap (shape_value instants (layer d) place) (sym is)

      pub takes-any : (d : Doc) → takes_json place shape ≡ true → document_value instants shapes place d ≡ Ok (typed.Any d)
      takes-any d takes = at-shape d ∙ cond-true (takes_json place shape) _ _ takes ∙ ap (λ x. Ok (typed.Any x)) (whole-layer d)

      module _ (takes : takes_json place shape ≡ false) where
        pub float-refused : (d : Doc) → is_float shape.kind ≡ true → document_value instants shapes place d ≡ Err (here Float)
        float-refused d float = at-shape d ∙ cond-false (takes_json place shape) _ _ takes ∙ cond-true (is_float shape.kind) _ _ float

        module _ (plain_kind : is_float shape.kind ≡ false) where
          by-kind : (d : Doc) → document_value instants shapes place d ≡ kind_value instants shape (layer d)
          by-kind d = at-shape d ∙ cond-false (takes_json place shape) _ _ takes ∙ cond-false (is_float shape.kind) _ _ plain_kind

          pub kind-Str : (t : List ℕ) → document_value instants shapes place (Str t) ≡ text_value instants shape.kind t
          kind-Str t = by-kind (Str t) ∙ ap (kind_value instants shape) (layer-Str t)

          pub kind-Number : (n : Decimal) → document_value instants shapes place (Number n) ≡ number_value instants shape.kind n
          kind-Number n = by-kind (Number n) ∙ ap (kind_value instants shape) (layer-Number n)

          pub kind-Flag : (flag : Bool) → document_value instants shapes place (Flag flag) ≡ Ok (kept_document (Flag flag))
          kind-Flag flag = by-kind (Flag flag) ∙ ap (kind_value instants shape) (layer-Flag flag)

          pub kind-Null : document_value instants shapes place Null ≡ Ok (kept_document Null)
          kind-Null = by-kind Null ∙ ap (kind_value instants shape) layer-Null

          pub kind-Items : (ds : List Doc) → document_value instants shapes place (Items ds) ≡ list_due instants shapes shape ds
          kind-Items ds =
              by-kind (Items ds) ∙ ap (kind_value instants shape) (layer-Items ds)
              ∙ ap (λ d. if is_list shape.kind then items_value shape.item (map (meant instants shapes) ds) else Ok (kept_document d)) (ap whole_of (sym (layer-Items ds)) ∙ whole-layer (Items ds))
              ∙ ap (λ v. if is_list shape.kind then items_value shape.item (map (meant instants shapes) ds) else Ok v) (kept-Items ds)

          pub kind-Fields : (ps : List (Pair Doc)) → document_value instants shapes place (Fields ps) ≡ object_due instants shapes shape ps
          kind-Fields ps =
              let entries = fields_value (λ p. item_value shape.item p.value) (with_values (meant instants shapes) ps) in
              let members = fields_value (λ p. member_value (member_named p.key shape.members) p.value) (with_values (meant instants shapes) ps) in
              by-kind (Fields ps) ∙ ap (kind_value instants shape) (layer-Fields ps)
              ∙ ap (λ d. if is_map shape.kind then entries else (if is_structure shape.kind then members else Ok (kept_document d))) (ap whole_of (sym (layer-Fields ps)) ∙ whole-layer (Fields ps))
              ∙ ap (λ v. if is_map shape.kind then entries else (if is_structure shape.kind then members else Ok v)) (kept-Fields ps)
