-- What is kept of a document with short lists has short lists.
use Rattle.std.proofs.Common.{◌≡◌, ℕ, ◌<◌, Bool, true, false, if◌then◌else◌, List, [], ◌∷◌, ◌++◌, map, length, Option, None, Some, refl, sym, subst}
use Rattle.std.specs.Prelude.{slice_get, bytes_eq, codes}
use Rattle.std.specs.List.{AllByRecursion}
use Rattle.std.proofs.lemmas.List.{length-map}
use Rattle.json_doc.specs.declared.doc.Doc.{Doc, map-Doc, roll-Doc}
use Rattle.json_doc.specs.declared.doc.Doc.TheVariants as doc
use Rattle.json_doc.specs.declared.doc.Doc.TheVariants.{rolls-Null, rolls-Flag, rolls-Number, rolls-Str, rolls-Items, rolls-Fields}
use Rattle.json_doc.specs.declared.doc.Doc.TheOpen.{Doc-F}
use Rattle.json_doc.specs.declared.doc.Doc.TheFolds.{ind-Doc}
use Rattle.service_model.specs.declared.shape.Member.{Member}
use Rattle.service_model.specs.declared.shape.Shape.{Shape}
use Rattle.service_model.specs.declared.shape.ShapeId.{ShapeId}
use Rattle.texts.specs.declared.pairs.Pair.{Pair}
use Rattle.texts.specs.Keys.{value_at}
use Rattle.resp_parser.specs.Kept.{Keep, as_it_is, entry_of, inside_kept, kept_of, known_members, pair_of, shape_kept, structure_kept, unknown_member, unknown_tag, wanted_kept, with_values}
use Rattle.resp_parser.specs.Kinds.{is_map, is_null, passes}
use Rattle.resp_parser.proofs.Layers.{fold-Null, fold-Flag, fold-Number, fold-Str, fold-Items, fold-Fields}
use Rattle.resp_parser.proofs.ShortLists.{IsShort, AreShort, AreShortFields, short-Null, short-Flag, short-Number, short-Str, short-Items, short-Fields, few-items, items-short, fields-short}

pub all-append : {X : Type 0} (P : X → Type 0) (xs ys : List X) → AllByRecursion P xs → AllByRecursion P ys → AllByRecursion P (xs ++ ys)
all-append P [] ys all others = others
all-append P (x ∷ xs) ys all others = (all.0, all-append P xs ys all.1 others)

module _ (most : ℕ) where
  abbrev ShortKeep : Keep → Type 0
  ShortKeep k = (o : Option ShapeId) → IsShort most (k o)

  abbrev ShortEntries : List (Pair Keep) → Type 0
  ShortEntries = AllByRecursion (λ p. ShortKeep p.value)

  abbrev ShortLayer : Doc-F Keep → Type 0
  ShortLayer (Doc-F.Items ks) = (length ks < most) × AllByRecursion ShortKeep ks
  ShortLayer (Doc-F.Fields ps) = ShortEntries ps
  ShortLayer others = Unit {0}

  each : (o : Option ShapeId) (ks : List Keep) → AllByRecursion ShortKeep ks → AreShort most (map (λ k. k o) ks)
  each o [] all = tt
  each o (k ∷ ks) all = (all.0 o, each o ks all.1)

  each-entry : (o : Option ShapeId) (ps : List (Pair Keep)) → ShortEntries ps → AreShortFields most (with_values (λ k. k o) ps)
  each-entry o [] all = tt
  each-entry o (p ∷ ps) all = (all.0 o, each-entry o ps all.1)

  items : (o : Option ShapeId) (ks : List Keep) → length ks < most → AllByRecursion ShortKeep ks → IsShort most (doc.Items (map (λ k. k o) ks))
  items o ks few all = short-Items most (map (λ k. k o) ks) (rw length-map few) (each o ks all)

  fields : (o : Option ShapeId) (ps : List (Pair Keep)) → ShortEntries ps → IsShort most (doc.Fields (with_values (λ k. k o) ps))
  fields o ps all = short-Fields most (with_values (λ k. k o) ps) (each-entry o ps all)

  as-it-is : (x : Doc-F Keep) → ShortLayer x → IsShort most (as_it_is x)
  as-it-is Doc-F.Null all = short-Null most
  as-it-is (Doc-F.Flag flag) all = short-Flag most flag
  as-it-is (Doc-F.Number n) all = short-Number most n
  as-it-is (Doc-F.Str t) all = short-Str most t
  as-it-is (Doc-F.Items ks) all = items None ks all.0 all.1
  as-it-is (Doc-F.Fields ps) all = fields None ps all

  pick : (b : Bool) (v k : Keep) (rest : Option Keep) → (if b then Some v else rest) ≡ Some k → ShortKeep v → (rest ≡ Some k → ShortKeep k) → ShortKeep k
  pick true v k rest e first others = let same : v ≡ k = cc in subst ShortKeep same first
  pick false v k rest e first others = others e

  found : (key : List ℕ) (ps : List (Pair Keep)) (k : Keep) → ShortEntries ps → value_at key ps ≡ Some k → ShortKeep k
  found key [] k all e = absurd (cc)
  found key (p ∷ ps) k all e = pick (bytes_eq p.key key) p.value k (value_at key ps) e all.0 (λ r. found key ps k all.1 r)

  entry : (m : Member) (o : Option Keep) → ((k : Keep) → o ≡ Some k → ShortKeep k) → AreShortFields most (entry_of m o)
  entry m None short = tt
  entry m (Some k) short =
      elim (is_null (k None)) as (λ b. AreShortFields most (if b then [] else pair_of m.name (k (Some m.shape)) ∷ []))
      [ true ↦ tt | false ↦ (short k refl (Some m.shape), tt) ]

  known : (members : List Member) (ps : List (Pair Keep)) → ShortEntries ps → AreShortFields most (known_members members ps)
  known [] ps all = tt
  known (m ∷ ms) ps all =
      all-append (λ p. IsShort most p.value) (entry_of m (value_at m.wire ps)) (known_members ms ps)
      (entry m (value_at m.wire ps) (λ k e. found m.wire ps k all e)) (known ms ps all)

  unknown : (tag : List ℕ) → IsShort most (unknown_member tag)
  unknown tag =
      short-Fields most (pair_of (codes "SDK_UNKNOWN_MEMBER") (doc.Fields (pair_of (codes "name") (doc.Str tag) ∷ [])) ∷ [])
      (short-Fields most (pair_of (codes "name") (doc.Str tag) ∷ []) (short-Str most tag, tt), tt)

  structure : (shape : Shape) (ps : List (Pair Keep)) (tag : Option (List ℕ)) → ShortEntries ps → IsShort most (structure_kept shape ps tag)
  structure shape ps None all = short-Fields most (known_members shape.members ps) (known shape.members ps all)
  structure shape ps (Some tag) all = unknown tag

  inside : (shape : Shape) (x : Doc-F Keep) → ShortLayer x → IsShort most (inside_kept shape x)
  inside shape Doc-F.Null all = short-Null most
  inside shape (Doc-F.Flag flag) all = short-Flag most flag
  inside shape (Doc-F.Number n) all = short-Number most n
  inside shape (Doc-F.Str t) all = short-Str most t
  inside shape (Doc-F.Items ks) all = items shape.item ks all.0 all.1
  inside shape (Doc-F.Fields ps) all =
      let tag = unknown_tag (λ (keep : Keep). is_null (keep None)) shape ps in
      elim (is_map shape.kind) as (λ b. IsShort most (if b then doc.Fields (with_values (λ keep. keep shape.item) ps) else structure_kept shape ps tag))
      [ true ↦ fields shape.item ps all | false ↦ structure shape ps tag all ]

  at-shape : (x : Doc-F Keep) (shape : Option Shape) → ShortLayer x → IsShort most (shape_kept x shape)
  at-shape x None all = as-it-is x all
  at-shape x (Some shape) all =
      elim (passes shape) as (λ b. IsShort most (if b then as_it_is x else inside_kept shape x))
      [ true ↦ as-it-is x all | false ↦ inside shape x all ]

  wanted : (shapes : List Shape) (x : Doc-F Keep) → ShortLayer x → ShortKeep (wanted_kept shapes x)
  wanted shapes x all None = as-it-is x all
  wanted shapes x all (Some id) = at-shape x (slice_get shapes id.0) all

  module _ (shapes : List Shape) where
    abbrev Stays : Doc → Type 0
    Stays d = IsShort most d → ShortKeep (kept_of shapes d)

    abbrev Known : Type 0
    Known = (d : Doc) × Stays d

    from : (d : Doc) (x : Doc-F Keep) → kept_of shapes d ≡ wanted_kept shapes x → ShortLayer x → ShortKeep (kept_of shapes d)
    from d x e all o = subst (λ k. IsShort most (k o)) (sym e) (wanted shapes x all o)

    keeps : (es : List Known) → AreShort most (map (λ e. e.0) es) → AllByRecursion ShortKeep (map (kept_of shapes) (map (λ e. e.0) es))
    keeps [] all = tt
    keeps (e ∷ es) all = (e.1 all.0, keeps es all.1)

    keeps-fields : (ps : List (Pair Known)) → AreShortFields most (with_values (λ e. e.0) ps) → ShortEntries (with_values (kept_of shapes) (with_values (λ e. e.0) ps))
    keeps-fields [] all = tt
    keeps-fields (p ∷ ps) all = (p.value.1 all.0, keeps-fields ps all.1)

    by-items : (es : List Known) → Stays (doc.Items (map (λ e. e.0) es))
    by-items es short =
        let ds = map (λ (e : Known). e.0) es in
        from (doc.Items ds) (Doc-F.Items (map (kept_of shapes) ds)) (fold-Items (wanted_kept shapes) ds)
        (rw length-map (few-items most ds short), keeps es (items-short most ds short))

    by-fields : (es : List (Pair Known)) → Stays (doc.Fields (with_values (λ e. e.0) es))
    by-fields es short =
        let ps = with_values (λ (e : Known). e.0) es in
        from (doc.Fields ps) (Doc-F.Fields (with_values (kept_of shapes) ps)) (fold-Fields (wanted_kept shapes) ps)
        (keeps-fields es (fields-short most ps short))

    layer : (y : Doc-F Known) → Stays (roll-Doc (map-Doc Known Doc (λ e. e.0) y))
    layer Doc-F.Null = subst Stays (sym rolls-Null) (λ short. from doc.Null Doc-F.Null (fold-Null (wanted_kept shapes)) tt)
    layer (Doc-F.Flag flag) = subst Stays (sym (rolls-Flag flag)) (λ short. from (doc.Flag flag) (Doc-F.Flag flag) (fold-Flag (wanted_kept shapes) flag) tt)
    layer (Doc-F.Number n) = subst Stays (sym (rolls-Number n)) (λ short. from (doc.Number n) (Doc-F.Number n) (fold-Number (wanted_kept shapes) n) tt)
    layer (Doc-F.Str t) = subst Stays (sym (rolls-Str t)) (λ short. from (doc.Str t) (Doc-F.Str t) (fold-Str (wanted_kept shapes) t) tt)
    layer (Doc-F.Items es) = subst Stays (sym (rolls-Items (map (λ e. e.0) es))) (by-items es)
    layer (Doc-F.Fields es) = subst Stays (sym (rolls-Fields (with_values (λ e. e.0) es))) (by-fields es)

    pub kept-short : (d : Doc) → IsShort most d → (o : Option ShapeId) → IsShort most (kept_of shapes d o)
    kept-short = ind-Doc Stays (λ x y is. subst (λ z. Stays (roll-Doc z)) is (layer y))
