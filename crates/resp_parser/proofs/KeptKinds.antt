-- What is kept of a value without a fault has the kinds of its shape.
use Rattle.std.proofs.Common.{◌≡◌, ℕ, ◌+◌, Bool, true, false, ◌&&◌, ◌||◌, if◌then◌else◌, List, [], ◌∷◌, ◌++◌, map, Option, None, Some, Ok, Err, filter, refl, sym, ap, ◌∙◌, subst, append_assoc}
use Rattle.std.specs.Prelude.{slice_get, bytes_eq, codes, option_map, option_and_then}
use Rattle.std.specs.Bool.{Decides}
use Rattle.std.specs.List.{All, list_all}
use Rattle.std.proofs.lemmas.Option.{get_or_from_slice_get, slice_get_within}
use Rattle.std.proofs.lemmas.Slice.Eq.{bytes_eq-Decides}
use Rattle.json_doc.specs.declared.decimal.Decimal.{Decimal}
use Rattle.json_doc.specs.declared.doc.Doc.{Doc, map-Doc, out-Doc, roll-Doc}
use Rattle.json_doc.specs.declared.doc.Doc.TheVariants as doc
use Rattle.json_doc.specs.declared.doc.Doc.TheVariants.{rolls-Null, rolls-Flag, rolls-Number, rolls-Str, rolls-Items, rolls-Fields}
use Rattle.json_doc.specs.declared.doc.Doc.TheOpen.{Doc-F}
use Rattle.json_doc.specs.declared.doc.Doc.TheFolds.{fold_out-Doc, ind-Doc}
use Rattle.service_model.specs.declared.shape.Member.{Member}
use Rattle.service_model.specs.declared.shape.Shape.{Shape}
use Rattle.service_model.specs.declared.shape.ShapeId.{ShapeId}
use Rattle.service_model.specs.Kept.{HasOwnNames}
use Rattle.service_model.specs.Shapes.{names_in}
use Rattle.texts.specs.declared.pairs.Pair.{Pair}
use Rattle.texts.specs.Keys.{IsNew, IsDistinct, value_at}
use Rattle.resp_parser.specs.FirstFault.{Judge, entries_fault, fault_of, inside_fault, items_fault, judge_of, kind_fault, member_fault, members_fault, structure_fault}
use Rattle.resp_parser.specs.Kept.{Keep, entry_of, inside_kept, kept_of, known_members, only_key, pair_of, structure_kept, unknown_member, unknown_tag, unless_sent, is_counted, with_values}
use Rattle.resp_parser.specs.Kinds.{has_kind, is_list, is_map, is_null, is_structure, passes}
use Rattle.resp_parser.specs.Laws.{KeptHasKinds, Test, has_kinds, inside_has, is_unknown_form, member_has, shape_has, structure_has, wanted_has}
use Rattle.resp_parser.specs.Members.{member_named}
use Rattle.resp_parser.specs.Paths.{Path, first_of, to_item, to_name, under, unless}
use Rattle.resp_parser.proofs.Due.{due-flag, due-number, due-text, fault-view, inside-fault, kept-passes, kept-view, wrong-kind}
use Rattle.resp_parser.proofs.Keyed.{at-with}
use Rattle.resp_parser.proofs.Layers.{out-Null, out-Items, out-Fields, fold-Null, fold-Items, fold-Fields}
use Rattle.resp_parser.proofs.Tags.{tag-judged, tag-kept}

-- ---- faults that aren't there

first-none : (a b : Option Path) → first_of a b ≡ None → a ≡ None
first-none None b e = refl
first-none (Some p) b e = absurd (cc)

second-none : (a b : Option Path) → first_of a b ≡ None → b ≡ None
second-none None b e = e
second-none (Some p) b e = absurd (cc)

under-none : (step : Path) (o : Option Path) → under step o ≡ None → o ≡ None
under-none step None e = refl
under-none step (Some p) e = absurd (cc)

both : (a b : Bool) → a ≡ true → b ≡ true → (a && b) ≡ true
both a b p q = rw (p, q) refl

-- ---- members by names that are distinct

not-new : (k : List ℕ) (xs : List Member) (m : Member) (ys : List Member) → IsNew k (names_in (xs ++ m ∷ ys)) → k ≡ m.name → ⊥
not-new k [] m ys new = new.0
not-new k (x ∷ xs) m ys new = not-new k xs m ys new.1

named-in : (xs : List Member) (m : Member) (ys : List Member) → IsDistinct (names_in (xs ++ m ∷ ys)) → member_named m.name (xs ++ m ∷ ys) ≡ Some m
named-in [] m ys distinct = ap (λ b. if b then Some m else member_named m.name ys) ((bytes_eq-Decides m.name m.name).1 refl)
named-in (x ∷ xs) m ys distinct =
    elim (bytes_eq x.name m.name) as (λ b. Decides b (x.name ≡ m.name) → (if b then Some x else member_named m.name (xs ++ m ∷ ys)) ≡ Some m) [
      | true ↦ (λ d. absurd (not-new x.name xs m ys distinct.0 (d.0 refl)))
      | false ↦ (λ d. named-in xs m ys distinct.1)
    ] (bytes_eq-Decides x.name m.name)

module _ (shapes : List Shape) (distinct : All (λ shape. HasOwnNames shape.members) shapes) where
  abbrev H : Doc → Test
  H = has_kinds shapes

  abbrev K : Doc → Keep
  K = kept_of shapes

  abbrev J : Doc → Judge
  J = judge_of shapes

  has-none : (d : Doc) → H d None ≡ true
  has-none d = ap (λ t. t None) (fold_out-Doc Test (wanted_has shapes) d)

  has-at : (d : Doc) (id : ShapeId) (o : Option Shape) → slice_get shapes id.0 ≡ o → H d (Some id) ≡ shape_has (map-Doc Doc Test H (out-Doc d)) o
  has-at d id o at = ap (λ t. t (Some id)) (fold_out-Doc Test (wanted_has shapes) d) ∙ ap (shape_has (map-Doc Doc Test H (out-Doc d))) at

  abbrev Good : Doc → ShapeId → Type 0
  Good d id = H (K d (Some id)) (Some id) ≡ true

  abbrev Stays : Doc → Type 0
  Stays d = (id : ShapeId) → fault_of shapes d id ≡ None → Good d id

  abbrev Known : Type 0
  Known = (d : Doc) × Stays d

  -- ---- parts

  child : (item : Option ShapeId) (e : Known) → (J e.0).fault item ≡ None → H (K e.0 item) item ≡ true
  child None e none = has-none (K e.0 None)
  child (Some id) e none = e.1 id none

  each : (item : Option ShapeId) (n : ℕ) (es : List Known) → items_fault item n (map J (map (λ e. e.0) es)) ≡ None
      → list_all (λ test. test item) (map H (map (λ keep. keep item) (map K (map (λ e. e.0) es)))) ≡ true
  each item n [] none = refl
  each item n (e ∷ es) none =
      let here = under (to_item n) ((J e.0).fault item) in
      let others = items_fault item (n + 1) (map J (map (λ (x : Known). x.0) es)) in
      both (H (K e.0 item) item) (list_all (λ test. test item) (map H (map (λ keep. keep item) (map K (map (λ x. x.0) es)))))
      (child item e (under-none (to_item n) ((J e.0).fault item) (first-none here others none)))
      (each item (n + 1) es (second-none here others none))

  each-entry : (item : Option ShapeId) (es : List (Pair Known)) → entries_fault item (with_values J (with_values (λ e. e.0) es)) ≡ None
      → list_all (λ p. p.value item) (with_values H (with_values (λ keep. keep item) (with_values K (with_values (λ e. e.0) es)))) ≡ true
  each-entry item [] none = refl
  each-entry item (p ∷ ps) none =
      let here = under (to_name p.key) ((J p.value.0).fault item) in
      let others = entries_fault item (with_values J (with_values (λ (x : Known). x.0) ps)) in
      both (H (K p.value.0 item) item) (list_all (λ q. q.value item) (with_values H (with_values (λ keep. keep item) (with_values K (with_values (λ x. x.0) ps)))))
      (child item p.value (under-none (to_name p.key) ((J p.value.0).fault item) (first-none here others none)))
      (each-entry item ps (second-none here others none))

  -- ---- structures

  module _ (members : List Member) (es : List (Pair Known)) where
    abbrev entries : List (Pair Doc)
    entries = with_values (λ e. e.0) es

    abbrev fits : Pair Test → Bool
    fits p = member_has (member_named p.key members) p.value

    kept-at-key : (key : List ℕ) → value_at key (with_values K entries) ≡ option_map (λ e. K e.0) (value_at key es)
    kept-at-key key = at-with K key entries ∙ ap (option_map K) (at-with (λ (e : Known). e.0) key es) ∙ twice (value_at key es)
      where
        twice : (o : Option Known) → option_map K (option_map (λ e. e.0) o) ≡ option_map (λ e. K e.0) o
        twice None = refl
        twice (Some e) = refl

    fault-at-key : (key : List ℕ) → value_at key (with_values J entries) ≡ option_map (λ e. J e.0) (value_at key es)
    fault-at-key key = at-with J key entries ∙ ap (option_map J) (at-with (λ (e : Known). e.0) key es) ∙ twice (value_at key es)
      where
        twice : (o : Option Known) → option_map J (option_map (λ e. e.0) o) ≡ option_map (λ e. J e.0) o
        twice None = refl
        twice (Some e) = refl

    fits-entry : (m : Member) (o : Option Known) → member_named m.name members ≡ Some m → member_fault m (option_map (λ e. J e.0) o) ≡ None
        → list_all fits (with_values H (entry_of m (option_map (λ e. K e.0) o))) ≡ true
    fits-entry m None named none = refl
    fits-entry m (Some e) named none =
        let good = e.1 m.shape (under-none (to_name m.name) ((J e.0).fault (Some m.shape)) none) in
        elim (is_null (K e.0 None)) as (λ b. list_all fits (with_values H (if b then [] else pair_of m.name (K e.0 (Some m.shape)) ∷ [])) ≡ true) [
          | true ↦ refl
          | false ↦ both (member_has (member_named m.name members) (H (K e.0 (Some m.shape)))) true (ap (λ o. member_has o (H (K e.0 (Some m.shape)))) named ∙ good) refl
        ]

    all-joined : (xs ys : List (Pair Doc)) → list_all fits (with_values H xs) ≡ true → list_all fits (with_values H ys) ≡ true → list_all fits (with_values H (xs ++ ys)) ≡ true
    all-joined [] ys first second = second
    all-joined (x ∷ xs) ys first second =
        let test = fits (pair_of x.key (H x.value)) in
        let parts = split test (list_all fits (with_values H xs)) first in
        both test (list_all fits (with_values H (xs ++ ys))) parts.0 (all-joined xs ys parts.1 second)
      where
        split : (a b : Bool) → (a && b) ≡ true → (a ≡ true) × (b ≡ true)
        split true true e = (refl, refl)
        split true false e = absurd (cc)
        split false b e = absurd (cc)

    fits-members : (front back : List Member) → front ++ back ≡ members → IsDistinct (names_in members)
        → members_fault (with_values J entries) back ≡ None → list_all fits (with_values H (known_members back (with_values K entries))) ≡ true
    fits-members front [] whole own none = refl
    fits-members front (m ∷ ms) whole own none =
        let here = member_fault m (value_at m.wire (with_values J entries)) in
        let others = members_fault (with_values J entries) ms in
        let named : member_named m.name members ≡ Some m =
        subst (λ xs. member_named m.name xs ≡ Some m) whole (named-in front m ms (subst (λ xs. IsDistinct (names_in xs)) (sym whole) own)) in
        let fault = ap (member_fault m) (sym (fault-at-key m.wire)) ∙ first-none here others none in
        let entry : list_all fits (with_values H (entry_of m (value_at m.wire (with_values K entries)))) ≡ true =
        ap (λ o. list_all fits (with_values H (entry_of m o))) (kept-at-key m.wire) ∙ fits-entry m (value_at m.wire es) named fault in
        all-joined (entry_of m (value_at m.wire (with_values K entries))) (known_members ms (with_values K entries)) entry
        (fits-members (front ++ m ∷ []) ms (append_assoc front (m ∷ []) ms ∙ whole) own (second-none here others none))

  tagged : (b : Bool) (o : Option (List ℕ)) (tag : List ℕ) → (if b then o else None) ≡ Some tag → b ≡ true
  tagged true o tag e = refl
  tagged false o tag e = absurd (cc)

  or-true : (a b : Bool) → b ≡ true → (a || b) ≡ true
  or-true true b e = refl
  or-true false b e = e

  has-fields : (qs : List (Pair Doc)) (id : ShapeId) (shape : Shape) → slice_get shapes id.0 ≡ Some shape
      → H (doc.Fields qs) (Some id) ≡ (has_kind shape (Doc-F.Fields (with_values H qs)) && (passes shape || inside_has shape (Doc-F.Fields (with_values H qs))))
  has-fields qs id shape at = ap (λ t. t (Some id)) (fold-Fields (wanted_has shapes) qs) ∙ ap (shape_has (Doc-F.Fields (with_values H qs))) at

  has-items : (ds : List Doc) (id : ShapeId) (shape : Shape) → slice_get shapes id.0 ≡ Some shape
      → H (doc.Items ds) (Some id) ≡ (has_kind shape (Doc-F.Items (map H ds)) && (passes shape || inside_has shape (Doc-F.Items (map H ds))))
  has-items ds id shape at = ap (λ t. t (Some id)) (fold-Items (wanted_has shapes) ds) ∙ ap (shape_has (Doc-F.Items (map H ds))) at

  own-names : (id : ShapeId) (shape : Shape) → slice_get shapes id.0 ≡ Some shape → IsDistinct (names_in shape.members)
  own-names id shape at =
      let there = distinct id.0 shape (slice_get_within shapes id.0 shape at) in
      subst (λ s. HasOwnNames s.members) (get_or_from_slice_get shapes id.0 shape shape at) there

  -- an object that has the kind of its shape and whose parts have theirs
  whole-fields : (qs : List (Pair Doc)) (id : ShapeId) (shape : Shape) → slice_get shapes id.0 ≡ Some shape
      → has_kind shape (Doc-F.Fields (with_values H qs)) ≡ true → inside_has shape (Doc-F.Fields (with_values H qs)) ≡ true → H (doc.Fields qs) (Some id) ≡ true
  whole-fields qs id shape at kind inside =
      has-fields qs id shape at
      ∙ both (has_kind shape (Doc-F.Fields (with_values H qs))) (passes shape || inside_has shape (Doc-F.Fields (with_values H qs))) kind
      (or-true (passes shape) (inside_has shape (Doc-F.Fields (with_values H qs))) inside)

  module _ (id : ShapeId) (shape : Shape) (at : slice_get shapes id.0 ≡ Some shape) (p : passes shape ≡ false) where
    structure-whole : (qs : List (Pair Doc)) → has_kind shape (Doc-F.Fields (with_values H qs)) ≡ true → is_map shape.kind ≡ false
        → structure_has shape (with_values H qs) ≡ true → H (doc.Fields qs) (Some id) ≡ true
    structure-whole qs kind no_map fits =
        whole-fields qs id shape at kind
        (ap (λ b. if b then list_all (λ q. q.value shape.item) (with_values H qs) else structure_has shape (with_values H qs)) no_map ∙ fits)

    by-tag : (es : List (Pair Known)) (tag : Option (List ℕ)) → is_map shape.kind ≡ false
        → ((qs : List (Pair Doc)) → has_kind shape (Doc-F.Fields (with_values H qs)) ≡ true)
        → unknown_tag is_null shape (with_values (λ e. e.0) es) ≡ tag
        → structure_fault shape (with_values J (with_values (λ e. e.0) es)) tag ≡ None
        → H (structure_kept shape (with_values K (with_values (λ e. e.0) es)) tag) (Some id) ≡ true
    by-tag es None no_map kind is none =
        let qs = known_members shape.members (with_values K (with_values (λ (e : Known). e.0) es)) in
        let fits = fits-members shape.members es [] shape.members refl (own-names id shape at) none in
        structure-whole qs (kind qs) no_map (ap (λ b. b || (shape.is_union && is_unknown_form (with_values H qs))) fits)
    by-tag es (Some tag) no_map kind is none =
        let qs = pair_of (codes "SDK_UNKNOWN_MEMBER") (doc.Fields (pair_of (codes "name") (doc.Str tag) ∷ [])) ∷ [] in
        let union = tagged shape.is_union (option_and_then (unless_sent shape.members) (only_key (filter (is_counted is_null) (with_values (λ (e : Known). e.0) es)))) tag is in
        structure-whole qs (kind qs) no_map
        (or-true (list_all (λ q. member_has (member_named q.key shape.members) q.value) (with_values H qs)) (shape.is_union && is_unknown_form (with_values H qs))
        (both shape.is_union (is_unknown_form (with_values H qs)) union refl))

    by-map : (es : List (Pair Known)) (b : Bool) → is_map shape.kind ≡ b
        → ((qs : List (Pair Doc)) → has_kind shape (Doc-F.Fields (with_values H qs)) ≡ true)
        → inside_fault shape (Doc-F.Fields (with_values J (with_values (λ e. e.0) es))) ≡ None
        → H (inside_kept shape (Doc-F.Fields (with_values K (with_values (λ e. e.0) es)))) (Some id) ≡ true
    by-map es true is kind none =
        let ps = with_values (λ (e : Known). e.0) es in
        let qs = with_values (λ (keep : Keep). keep shape.item) (with_values K ps) in
        let faults : entries_fault shape.item (with_values J ps) ≡ None =
        ap (λ b. if b then entries_fault shape.item (with_values J ps) else structure_fault shape (with_values J ps) (unknown_tag (λ judge. judge.is_null) shape (with_values J ps))) (sym is) ∙ none in
        let kept : inside_kept shape (Doc-F.Fields (with_values K ps)) ≡ doc.Fields qs =
        ap (λ b. if b then doc.Fields qs else structure_kept shape (with_values K ps) (unknown_tag (λ keep. is_null (keep None)) shape (with_values K ps))) is in
        ap (λ d. H d (Some id)) kept
        ∙ whole-fields qs id shape at (kind qs)
        (ap (λ b. if b then list_all (λ q. q.value shape.item) (with_values H qs) else structure_has shape (with_values H qs)) is ∙ each-entry shape.item es faults)
    by-map es false is kind none =
        let ps = with_values (λ (e : Known). e.0) es in
        let tag = unknown_tag is_null shape ps in
        let faults : structure_fault shape (with_values J ps) tag ≡ None =
        ap (structure_fault shape (with_values J ps)) (sym (tag-judged shapes shape ps))
        ∙ ap (λ b. if b then entries_fault shape.item (with_values J ps) else structure_fault shape (with_values J ps) (unknown_tag (λ judge. judge.is_null) shape (with_values J ps))) (sym is) ∙ none in
        let kept : inside_kept shape (Doc-F.Fields (with_values K ps)) ≡ structure_kept shape (with_values K ps) tag =
        ap (λ b. if b then doc.Fields (with_values (λ keep. keep shape.item) (with_values K ps)) else structure_kept shape (with_values K ps) (unknown_tag (λ keep. is_null (keep None)) shape (with_values K ps))) is
        ∙ ap (structure_kept shape (with_values K ps)) (tag-kept shapes shape ps) in
        ap (λ d. H d (Some id)) kept ∙ by-tag es tag is kind refl faults

    some-fault : (o : Option Path) (path : Path) → o ≡ None → o ≡ Some path → ⊥
    some-fault o path none some = let e = sym none ∙ some in absurd (cc)

    by-kind-fields : (es : List (Pair Known)) (b : Bool) → has_kind shape (Doc-F.Fields (with_values J (with_values (λ e. e.0) es))) ≡ b
        → kind_fault shape (Doc-F.Fields (with_values J (with_values (λ e. e.0) es))) ≡ None
        → H (inside_kept shape (Doc-F.Fields (with_values K (with_values (λ e. e.0) es)))) (Some id) ≡ true
    by-kind-fields es true is none =
        let x = Doc-F.Fields (with_values J (with_values (λ (e : Known). e.0) es)) in
        by-map es (is_map shape.kind) refl (λ qs. is) (sym (inside-fault shape x p is) ∙ none)
    by-kind-fields es false is none =
        let x = Doc-F.Fields (with_values J (with_values (λ (e : Known). e.0) es)) in
        absurd (some-fault (kind_fault shape x) [] none (wrong-kind shape x is))

    by-kind-items : (es : List Known) (b : Bool) → has_kind shape (Doc-F.Items (map J (map (λ e. e.0) es))) ≡ b
        → kind_fault shape (Doc-F.Items (map J (map (λ e. e.0) es))) ≡ None
        → H (inside_kept shape (Doc-F.Items (map K (map (λ e. e.0) es)))) (Some id) ≡ true
    by-kind-items es true is none =
        let x = Doc-F.Items (map J (map (λ (e : Known). e.0) es)) in
        let ds = map (λ (keep : Keep). keep shape.item) (map K (map (λ (e : Known). e.0) es)) in
        has-items ds id shape at
        ∙ both (has_kind shape (Doc-F.Items (map H ds))) (passes shape || inside_has shape (Doc-F.Items (map H ds))) is
        (or-true (passes shape) (inside_has shape (Doc-F.Items (map H ds))) (each shape.item 0 es (sym (inside-fault shape x p is) ∙ none)))
    by-kind-items es false is none =
        let x = Doc-F.Items (map J (map (λ (e : Known). e.0) es)) in
        absurd (some-fault (kind_fault shape x) [] none (wrong-kind shape x is))

    scalar-none : (b : Bool) (o : Option Path) → b ≡ false → (if b then o else Some []) ≡ None → ⊥
    scalar-none true o e none = cc
    scalar-none false o e none = cc

    good-null : Good doc.Null id
    good-null =
        ap (λ d. H d (Some id)) (kept-view shapes id shape at doc.Null Doc-F.Null out-Null p)
        ∙ ap (λ t. t (Some id)) (fold-Null (wanted_has shapes)) ∙ ap (shape_has Doc-F.Null) at ∙ or-true (passes shape) true refl

    good-items : (es : List Known) → fault_of shapes (doc.Items (map (λ e. e.0) es)) id ≡ None → Good (doc.Items (map (λ e. e.0) es)) id
    good-items es none =
        let ds = map (λ (e : Known). e.0) es in
        ap (λ d. H d (Some id)) (kept-view shapes id shape at (doc.Items ds) (Doc-F.Items ds) (out-Items ds) p)
        ∙ by-kind-items es (has_kind shape (Doc-F.Items (map J ds))) refl
        (sym (fault-view shapes id shape at (doc.Items ds) (Doc-F.Items ds) (out-Items ds)) ∙ none)

    good-fields : (es : List (Pair Known)) → fault_of shapes (doc.Fields (with_values (λ e. e.0) es)) id ≡ None → Good (doc.Fields (with_values (λ e. e.0) es)) id
    good-fields es none =
        let ps = with_values (λ (e : Known). e.0) es in
        ap (λ d. H d (Some id)) (kept-view shapes id shape at (doc.Fields ps) (Doc-F.Fields ps) (out-Fields ps) p)
        ∙ by-kind-fields es (has_kind shape (Doc-F.Fields (with_values J ps))) refl
        (sym (fault-view shapes id shape at (doc.Fields ps) (Doc-F.Fields ps) (out-Fields ps)) ∙ none)

  -- ---- by the outermost layer

  kind-passes : {X : Type 0} (shape : Shape) (x : Doc-F X) → passes shape ≡ true → has_kind shape x ≡ true
  kind-passes shape Doc-F.Null p = refl
  kind-passes shape (Doc-F.Flag flag) p = p
  kind-passes shape (Doc-F.Number n) p = p
  kind-passes shape (Doc-F.Str t) p = p
  kind-passes shape (Doc-F.Items xs) p = ap (λ b. b || is_list shape.kind) p
  kind-passes shape (Doc-F.Fields ps) p = ap (λ b. b || (is_structure shape.kind || is_map shape.kind)) p

  passing : (d : Doc) (id : ShapeId) (shape : Shape) → slice_get shapes id.0 ≡ Some shape → passes shape ≡ true → Good d id
  passing d id shape at p =
      ap (λ x. H x (Some id)) (kept-passes shapes id shape at d p) ∙ has-at d id (Some shape) at
      ∙ both (has_kind shape (map-Doc Doc Test H (out-Doc d))) (passes shape || inside_has shape (map-Doc Doc Test H (out-Doc d)))
      (kind-passes shape (map-Doc Doc Test H (out-Doc d)) p) (ap (λ b. b || inside_has shape (map-Doc Doc Test H (out-Doc d))) p)

  -- what is to be shown of a value where all that the shape asks for is asked
  abbrev Asked : Doc → Type 0
  Asked d = (id : ShapeId) (shape : Shape) → slice_get shapes id.0 ≡ Some shape → passes shape ≡ false → fault_of shapes d id ≡ None → Good d id

  stays : (d : Doc) → Asked d → Stays d
  stays d asked id none = by (slice_get shapes id.0) refl
    where
      shaped : (shape : Shape) (b : Bool) → slice_get shapes id.0 ≡ Some shape → passes shape ≡ b → Good d id
      shaped shape true at p = passing d id shape at p
      shaped shape false at p = asked id shape at p none

      by : (o : Option Shape) → slice_get shapes id.0 ≡ o → Good d id
      by None at = has-at (K d (Some id)) id None at
      by (Some shape) at = shaped shape (passes shape) at refl

  flagged : (flag : Bool) → Asked (doc.Flag flag)
  flagged flag id shape at p none = let e = sym (ap (λ o. unless o (K (doc.Flag flag) (Some id))) none) ∙ due-flag shapes id shape at flag p in absurd (cc)

  numbered : (n : Decimal) → Asked (doc.Number n)
  numbered n id shape at p none = let e = sym (ap (λ o. unless o (K (doc.Number n) (Some id))) none) ∙ due-number shapes id shape at n p in absurd (cc)

  written : (t : List ℕ) → Asked (doc.Str t)
  written t id shape at p none = let e = sym (ap (λ o. unless o (K (doc.Str t) (Some id))) none) ∙ due-text shapes id shape at t p in absurd (cc)

  layer : (y : Doc-F Known) → Stays (roll-Doc (map-Doc Known Doc (λ e. e.0) y))
  layer Doc-F.Null = subst Stays (sym rolls-Null) (stays doc.Null (λ id shape at p none. good-null id shape at p))
  layer (Doc-F.Flag flag) = subst Stays (sym (rolls-Flag flag)) (stays (doc.Flag flag) (flagged flag))
  layer (Doc-F.Number n) = subst Stays (sym (rolls-Number n)) (stays (doc.Number n) (numbered n))
  layer (Doc-F.Str t) = subst Stays (sym (rolls-Str t)) (stays (doc.Str t) (written t))
  layer (Doc-F.Items es) = subst Stays (sym (rolls-Items (map (λ e. e.0) es))) (stays (doc.Items (map (λ e. e.0) es)) (λ id shape at p none. good-items id shape at p es none))
  layer (Doc-F.Fields es) = subst Stays (sym (rolls-Fields (with_values (λ e. e.0) es))) (stays (doc.Fields (with_values (λ e. e.0) es)) (λ id shape at p none. good-fields id shape at p es none))

  pub kinds-kept : (d : Doc) → Stays d
  kinds-kept = ind-Doc Stays (λ x y is. subst (λ z. Stays (roll-Doc z)) is (layer y))
