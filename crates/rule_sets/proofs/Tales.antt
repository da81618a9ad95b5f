-- What is told of a document, layer by layer.
use Rattle.std.proofs.Common.{◌≡◌, ℕ, suc, ◌+◌, Bool, true, false, List, [], ◌∷◌, map, length, Option, None, Some, refl, sym, ap, ◌∙◌, subst}
use Rattle.std.specs.Prelude.{option_map, bytes_eq, if◌then◌else◌}
use Rattle.std.specs.Fmt.{decimal}
use Rattle.json_doc.specs.declared.doc.Doc.{Doc, map-Doc, roll-Doc}
use Rattle.json_doc.specs.declared.doc.Doc.TheVariants.{Items, Fields, rolls-Null, rolls-Flag, rolls-Number, rolls-Str, rolls-Items, rolls-Fields}
use Rattle.json_doc.specs.declared.doc.Doc.TheOpen.{Doc-F}
use Rattle.json_doc.specs.declared.doc.Doc.TheFolds.{fold-roll-Doc, ind-Doc}
use Rattle.texts.specs.declared.pairs.Pair.{Pair}
use Rattle.texts.specs.Keys.{value_at}
use Rattle.model_files.specs.Faults.{inside}
use Rattle.rule_sets.specs.BadPlaces.{Judged, first_of, present, has_key, each_field, each_item}
use Rattle.rule_sets.specs.Trees.{Told, pair_of_part, told, told_step, whole_of}

abbrev pub pair_with : {T : Type 0} → List ℕ → T → Pair T
pair_with key value = record { key = key; value = value }

module _ {A : Type 0} (tell : Doc-F (Told A) → A) where
  abbrev Whole : Doc → Type 0
  Whole d = (told tell d).part ≡ d

  abbrev Known : Type 0
  Known = (d : Doc) × Whole d

  abbrev told_known : Known → Told A
  told_known e = told tell e.0

  abbrev plain : Pair Known → Pair Doc
  plain p = record { key = p.key; value = p.value.0 }

  abbrev told_known_pair : Pair Known → Pair (Told A)
  told_known_pair p = record { key = p.key; value = told tell p.value.0 }

  -- a field, and what is told of its value
  abbrev pub told_field : Pair Doc → Pair (Told A)
  told_field p = record { key = p.key; value = told tell p.value }

  known_items : (es : List Known) → map (λ t. t.part) (map told_known es) ≡ map (λ e. e.0) es
  known_items [] = refl
  known_items (e ∷ es) = ap (λ d. d ∷ map (λ t. t.part) (map told_known es)) e.1 ∙ ap (λ ds. e.0 ∷ ds) (known_items es)

  known_fields : (ps : List (Pair Known)) → map pair_of_part (map told_known_pair ps) ≡ map plain ps
  known_fields [] = refl
  known_fields (p ∷ ps) =
      ap (λ (d : Doc). pair_with p.key d ∷ map pair_of_part (map told_known_pair ps)) p.value.1
      ∙ ap (λ (qs : List (Pair Doc)). pair_with p.key p.value.0 ∷ qs) (known_fields ps)

  whole : (y : Doc-F Known) → whole_of (map-Doc Known (Told A) told_known y) ≡ roll-Doc (map-Doc Known Doc (λ e. e.0) y)
  whole Doc-F.Null = sym rolls-Null
  whole (Doc-F.Flag flag) = sym (rolls-Flag flag)
  whole (Doc-F.Number n) = sym (rolls-Number n)
  whole (Doc-F.Str t) = sym (rolls-Str t)
  whole (Doc-F.Items es) = ap Items (known_items es) ∙ sym (rolls-Items (map (λ e. e.0) es))
  whole (Doc-F.Fields ps) = ap Fields (known_fields ps) ∙ sym (rolls-Fields (map plain ps))

  twice_items : (es : List Known) → map (told tell) (map (λ e. e.0) es) ≡ map told_known es
  twice_items [] = refl
  twice_items (e ∷ es) = ap (λ ts. told_known e ∷ ts) (twice_items es)

  twice_fields : (ps : List (Pair Known)) → map told_field (map plain ps) ≡ map told_known_pair ps
  twice_fields [] = refl
  twice_fields (p ∷ ps) = ap (λ qs. told_known_pair p ∷ qs) (twice_fields ps)

  twice : (y : Doc-F Known) → map-Doc Doc (Told A) (told tell) (map-Doc Known Doc (λ e. e.0) y) ≡ map-Doc Known (Told A) told_known y
  twice Doc-F.Null = refl
  twice (Doc-F.Flag flag) = refl
  twice (Doc-F.Number n) = refl
  twice (Doc-F.Str t) = refl
  twice (Doc-F.Items es) = ap Doc-F.Items (twice_items es)
  twice (Doc-F.Fields ps) = ap Doc-F.Fields (twice_fields ps)

  layer : (y : Doc-F Known) → Whole (roll-Doc (map-Doc Known Doc (λ e. e.0) y))
  layer y =
      ap (λ t. t.part) (fold-roll-Doc (Told A) (told_step tell) (map-Doc Known Doc (λ e. e.0) y))
      ∙ ap whole_of (twice y) ∙ whole y

  -- the part that is told of is the document
  pub part_same : (d : Doc) → Whole d
  part_same = ind-Doc Whole (λ x y is. subst (λ z. Whole (roll-Doc z)) is (layer y))

  pub told_items : (ds : List Doc) → told tell (Items ds) ≡ told_step tell (Doc-F.Items (map (told tell) ds))
  told_items ds = ap (told tell) (sym (rolls-Items ds)) ∙ fold-roll-Doc (Told A) (told_step tell) (Doc-F.Items ds)

  pub told_fields : (ps : List (Pair Doc)) → told tell (Fields ps) ≡ told_step tell (Doc-F.Fields (map told_field ps))
  told_fields ps = ap (told tell) (sym (rolls-Fields ps)) ∙ fold-roll-Doc (Told A) (told_step tell) (Doc-F.Fields ps)

  pub parts_same : (ps : List (Pair Doc)) → map pair_of_part (map told_field ps) ≡ ps
  parts_same [] = refl
  parts_same (p ∷ ps) =
      ap (λ (d : Doc). pair_with p.key d ∷ map pair_of_part (map told_field ps)) (part_same p.value)
      ∙ ap (λ (qs : List (Pair Doc)). p ∷ qs) (parts_same ps)

  chosen : (b : Bool) (d : Doc) (o : Option Doc) (t : Option (Told A)) → t ≡ option_map (told tell) o
      → (if b then Some (told tell d) else t) ≡ option_map (told tell) (if b then Some d else o)
  chosen true d o t e = refl
  chosen false d o t e = e

  pub told_at : (key : List ℕ) (ps : List (Pair Doc)) → value_at key (map told_field ps) ≡ option_map (told tell) (value_at key ps)
  told_at key [] = refl
  told_at key (p ∷ ps) = chosen (bytes_eq p.key key) p.value (value_at key ps) (value_at key (map told_field ps)) (told_at key ps)

  present_too : (key : List ℕ) (o : Option Doc) → present key (option_map (told tell) o) ≡ present key o
  present_too key None = refl
  present_too key (Some d) = refl

  pub has_key_too : (key : List ℕ) (ps : List (Pair Doc)) → has_key key (map told_field ps) ≡ has_key key ps
  has_key_too key ps = ap (present key) (told_at key ps) ∙ present_too key (value_at key ps)

  pub each_field_told : (judge : List ℕ → Told A → Judged) (ps : List (Pair Doc))
      → each_field judge (map told_field ps) ≡ each_field (λ key d. judge key (told tell d)) ps
  each_field_told judge [] = refl
  each_field_told judge (p ∷ ps) = ap (first_of (inside p.key (judge p.key (told tell p.value)))) (each_field_told judge ps)

  pub each_item_told : (judge : Told A → Judged) (at : ℕ) (ds : List Doc)
      → each_item judge at (map (told tell) ds) ≡ each_item (λ d. judge (told tell d)) at ds
  each_item_told judge at [] = refl
  each_item_told judge at (d ∷ ds) = ap (first_of (inside (decimal at) (judge (told tell d)))) (each_item_told judge (at + 1) ds)

  pub length_told : (ds : List Doc) → length (map (told tell) ds) ≡ length ds
  length_told [] = refl
  length_told (d ∷ ds) = ap suc (length_told ds)
