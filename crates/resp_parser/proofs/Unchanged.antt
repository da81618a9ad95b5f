-- What is kept of a value that may be anything is the value.
use Rattle.std.proofs.Common.{◌≡◌, List, [], ◌∷◌, map, None, refl, sym, ap, ◌∙◌, subst}
use Rattle.json_doc.specs.declared.doc.Doc.{Doc, map-Doc, roll-Doc}
use Rattle.json_doc.specs.declared.doc.Doc.TheVariants.{Items, Fields, rolls-Null, rolls-Flag, rolls-Number, rolls-Str, rolls-Items, rolls-Fields}
use Rattle.json_doc.specs.declared.doc.Doc.TheOpen.{Doc-F}
use Rattle.json_doc.specs.declared.doc.Doc.TheFolds.{fold-roll-Doc, ind-Doc}
use Rattle.service_model.specs.declared.shape.Shape.{Shape}
use Rattle.texts.specs.declared.pairs.Pair.{Pair}
use Rattle.resp_parser.specs.Kept.{Keep, as_it_is, kept_of, pair_of, wanted_kept, with_values}

module _ (shapes : List Shape) where
  abbrev Stays : Doc → Type 0
  Stays d = kept_of shapes d None ≡ d

  abbrev Known : Type 0
  Known = (d : Doc) × Stays d

  abbrev keep_of : Known → Keep
  keep_of e = kept_of shapes e.0

  items : (es : List Known) → map (λ keep. keep None) (map keep_of es) ≡ map (λ e. e.0) es
  items [] = refl
  items (e ∷ es) = ap (λ d. d ∷ map (λ keep. keep None) (map keep_of es)) e.1 ∙ ap (λ ds. e.0 ∷ ds) (items es)

  fields : (ps : List (Pair Known)) → with_values (λ keep. keep None) (with_values keep_of ps) ≡ with_values (λ e. e.0) ps
  fields [] = refl
  fields (p ∷ ps) =
      ap (λ d. pair_of p.key d ∷ with_values (λ keep. keep None) (with_values keep_of ps)) p.value.1
      ∙ ap (λ qs. pair_of p.key p.value.0 ∷ qs) (fields ps)

  whole : (y : Doc-F Known) → as_it_is (map-Doc Known Keep keep_of y) ≡ roll-Doc (map-Doc Known Doc (λ e. e.0) y)
  whole Doc-F.Null = sym rolls-Null
  whole (Doc-F.Flag flag) = sym (rolls-Flag flag)
  whole (Doc-F.Number n) = sym (rolls-Number n)
  whole (Doc-F.Str t) = sym (rolls-Str t)
  whole (Doc-F.Items es) = ap Items (items es) ∙ sym (rolls-Items (map (λ e. e.0) es))
  whole (Doc-F.Fields ps) = ap Fields (fields ps) ∙ sym (rolls-Fields (with_values (λ e. e.0) ps))

  twice_items : (es : List Known) → map (kept_of shapes) (map (λ e. e.0) es) ≡ map keep_of es
  twice_items [] = refl
  twice_items (e ∷ es) = ap (λ ks. keep_of e ∷ ks) (twice_items es)

  twice_fields : (ps : List (Pair Known)) → with_values (kept_of shapes) (with_values (λ e. e.0) ps) ≡ with_values keep_of ps
  twice_fields [] = refl
  twice_fields (p ∷ ps) = ap (λ qs. pair_of p.key (keep_of p.value) ∷ qs) (twice_fields ps)

  twice : (y : Doc-F Known) → map-Doc Doc Keep (kept_of shapes) (map-Doc Known Doc (λ e. e.0) y) ≡ map-Doc Known Keep keep_of y
  twice Doc-F.Null = refl
  twice (Doc-F.Flag flag) = refl
  twice (Doc-F.Number n) = refl
  twice (Doc-F.Str t) = refl
  twice (Doc-F.Items es) = ap Doc-F.Items (twice_items es)
  twice (Doc-F.Fields ps) = ap Doc-F.Fields (twice_fields ps)

  layer : (y : Doc-F Known) → Stays (roll-Doc (map-Doc Known Doc (λ e. e.0) y))
  layer y =
      ap (λ k. k None) (fold-roll-Doc Keep (wanted_kept shapes) (map-Doc Known Doc (λ e. e.0) y))
      ∙ ap as_it_is (twice y) ∙ whole y

  pub unchanged : (d : Doc) → Stays d
  unchanged = ind-Doc Stays (λ x y is. subst (λ z. Stays (roll-Doc z)) is (layer y))
