-- What is due of the parts of a value, given that of each of them.
use Rattle.std.proofs.Common.{◌≡◌, ℕ, ◌+◌, ◌<◌, Bool, true, false, ◌||◌, if◌then◌else◌, List, [], ◌∷◌, ◌++◌, map, length, get_or, set, take, drop, Option, None, Some, Result, Ok, Err, refl, sym, ap, subst, ◌∙◌, append_assoc, arith}
use Rattle.std.proofs.lemmas.List.{drop_more, map_more, set-set, set_at, get_or_at, length-map, length-take-le}
use Rattle.json_doc.specs.declared.doc.Doc.{Doc}
use Rattle.json_doc.specs.declared.doc.Doc.TheVariants as doc
use Rattle.json_doc.specs.declared.doc.Doc.TheOpen.{Doc-F}
use Rattle.service_model.specs.declared.shape.Shape.{Shape}
use Rattle.service_model.specs.declared.shape.ShapeId.{ShapeId}
use Rattle.texts.specs.declared.pairs.Pair.{Pair}
use Rattle.resp_parser.specs.FirstFault.{Judge, entries_fault, fault_of, items_fault, judge_of, kind_fault, members_fault, structure_fault}
use Rattle.resp_parser.specs.Kept.{Keep, inside_kept, kept_of, known_members, structure_kept, unknown_member, unknown_tag, with_values}
use Rattle.resp_parser.specs.Kinds.{has_kind, is_list, is_map, is_null, is_structure, passes}
use Rattle.resp_parser.specs.Paths.{Path, first_of, to_item, under, unless}
use Rattle.resp_parser.proofs.Due.{inside-fault}
use Rattle.resp_parser.proofs.Tags.{tag-judged, tag-kept}

right : (a b : Bool) → b ≡ true → (a || b) ≡ true
right true b e = refl
right false b e = e

left : (a b : Bool) → a ≡ true → (a || b) ≡ true
left a b e = ap (λ c. c || b) e

module _ (shapes : List Shape) where
  abbrev J : Doc → Judge
  J = judge_of shapes

  abbrev K : Doc → Keep
  K = kept_of shapes

  items-at : (o : Option ShapeId) (ds : List Doc) → map (λ keep. keep o) (map K ds) ≡ map (λ d. K d o) ds
  items-at o [] = refl
  items-at o (d ∷ ds) = ap (λ xs. K d o ∷ xs) (items-at o ds)

  entries-at : (o : Option ShapeId) (ps : List (Pair Doc)) → with_values (λ keep. keep o) (with_values K ps) ≡ with_values (λ d. K d o) ps
  entries-at o [] = refl
  entries-at o (p ∷ ps) = ap (λ xs. record { key = p.key; value = K p.value o } ∷ xs) (entries-at o ps)

  module _ (shape : Shape) (p : passes shape ≡ false) where
    pub list-due : (item : ShapeId) (ds : List Doc) → is_list shape.kind ≡ true → shape.item ≡ Some item
        → unless (kind_fault shape (Doc-F.Items (map J ds))) (inside_kept shape (Doc-F.Items (map K ds)))
        ≡ unless (items_fault (Some item) 0 (map J ds)) (doc.Items (map (λ d. K d (Some item)) ds))
    list-due item ds is at =
        let fault = inside-fault shape (Doc-F.Items (map J ds)) p (right (passes shape) (is_list shape.kind) is) ∙ ap (λ o. items_fault o 0 (map J ds)) at in
        let kept = ap (λ o. doc.Items (map (λ (keep : Keep). keep o) (map K ds))) at ∙ ap doc.Items (items-at (Some item) ds) in
        ap (λ o. unless o (inside_kept shape (Doc-F.Items (map K ds)))) fault ∙ ap (unless (items_fault (Some item) 0 (map J ds))) kept

    pub map-due : (item : ShapeId) (ps : List (Pair Doc)) → is_map shape.kind ≡ true → shape.item ≡ Some item
        → unless (kind_fault shape (Doc-F.Fields (with_values J ps))) (inside_kept shape (Doc-F.Fields (with_values K ps)))
        ≡ unless (entries_fault (Some item) (with_values J ps)) (doc.Fields (with_values (λ d. K d (Some item)) ps))
    map-due item ps is at =
        let kind = right (passes shape) (is_structure shape.kind || is_map shape.kind) (right (is_structure shape.kind) (is_map shape.kind) is) in
        let fault = inside-fault shape (Doc-F.Fields (with_values J ps)) p kind
        ∙ ap (λ b. if b then entries_fault shape.item (with_values J ps) else structure_fault shape (with_values J ps) (unknown_tag (λ judge. judge.is_null) shape (with_values J ps))) is
        ∙ ap (λ o. entries_fault o (with_values J ps)) at in
        let kept = ap (λ b. if b then doc.Fields (with_values (λ (keep : Keep). keep shape.item) (with_values K ps)) else structure_kept shape (with_values K ps) (unknown_tag (λ keep. is_null (keep None)) shape (with_values K ps))) is
        ∙ ap (λ o. doc.Fields (with_values (λ (keep : Keep). keep o) (with_values K ps))) at ∙ ap doc.Fields (entries-at (Some item) ps) in
        ap (λ o. unless o (inside_kept shape (Doc-F.Fields (with_values K ps)))) fault ∙ ap (unless (entries_fault (Some item) (with_values J ps))) kept

    tag-due : (ps : List (Pair Doc)) (tag : Option (List ℕ)) → is_map shape.kind ≡ false → is_structure shape.kind ≡ true → unknown_tag is_null shape ps ≡ tag
        → unless (kind_fault shape (Doc-F.Fields (with_values J ps))) (inside_kept shape (Doc-F.Fields (with_values K ps)))
        ≡ unless (structure_fault shape (with_values J ps) tag) (structure_kept shape (with_values K ps) tag)
    tag-due ps tag no_map is at =
        let kind = right (passes shape) (is_structure shape.kind || is_map shape.kind) (left (is_structure shape.kind) (is_map shape.kind) is) in
        let fault = inside-fault shape (Doc-F.Fields (with_values J ps)) p kind
        ∙ ap (λ b. if b then entries_fault shape.item (with_values J ps) else structure_fault shape (with_values J ps) (unknown_tag (λ judge. judge.is_null) shape (with_values J ps))) no_map
        ∙ ap (structure_fault shape (with_values J ps)) (tag-judged shapes shape ps ∙ at) in
        let kept = ap (λ b. if b then doc.Fields (with_values (λ (keep : Keep). keep shape.item) (with_values K ps)) else structure_kept shape (with_values K ps) (unknown_tag (λ keep. is_null (keep None)) shape (with_values K ps))) no_map
        ∙ ap (structure_kept shape (with_values K ps)) (tag-kept shapes shape ps ∙ at) in
        ap (λ o. unless o (inside_kept shape (Doc-F.Fields (with_values K ps)))) fault ∙ ap (unless (structure_fault shape (with_values J ps) tag)) kept

    pub structure-due : (ps : List (Pair Doc)) → is_map shape.kind ≡ false → is_structure shape.kind ≡ true → unknown_tag is_null shape ps ≡ None
        → unless (kind_fault shape (Doc-F.Fields (with_values J ps))) (inside_kept shape (Doc-F.Fields (with_values K ps)))
        ≡ unless (members_fault (with_values J ps) shape.members) (doc.Fields (known_members shape.members (with_values K ps)))
    structure-due ps no_map is at = tag-due ps None no_map is at

    pub tagged-due : (ps : List (Pair Doc)) (tag : List ℕ) → is_map shape.kind ≡ false → is_structure shape.kind ≡ true → unknown_tag is_null shape ps ≡ Some tag
        → unless (kind_fault shape (Doc-F.Fields (with_values J ps))) (inside_kept shape (Doc-F.Fields (with_values K ps))) ≡ Ok (unknown_member tag)
    tagged-due ps tag no_map is at = tag-due ps (Some tag) no_map is at

  -- one item more of a list
  module _ (item : ShapeId) (old now : List Doc) (i : ℕ) (within : i < length old)
      (made : now ≡ map (λ d. K d (Some item)) (take i old) ++ drop i old) where
    abbrev front : List Doc
    front = map (λ d. K d (Some item)) (take i old)

    count : length front ≡ i
    count = length-map (take i old) (λ d. K d (Some item)) ∙ length-take-le i old (omega arith)

    split : (d : Doc) → now ≡ front ++ get_or old i d ∷ drop (i + 1) old
    split d = made ∙ ap (λ xs. front ++ xs) (drop_more old i d within)

    pub item-read : (d : Doc) → d ≡ get_or now i d → d ≡ get_or old i d
    item-read d at = at ∙ ap (λ xs. get_or xs i d) (split d) ∙ get_or_at front (get_or old i d) (drop (i + 1) old) d i count

    pub item-made : (d z kept : Doc) → d ≡ get_or old i d → K d (Some item) ≡ kept
        → set (set now i z) i kept ≡ map (λ x. K x (Some item)) (take (i + 1) old) ++ drop (i + 1) old
    item-made d z kept at is =
        set-set now i z kept ∙ ap (λ xs. set xs i kept) (split d) ∙ set_at front (get_or old i d) (drop (i + 1) old) kept i count
        ∙ sym (ap (λ xs. xs ++ drop (i + 1) old) (map_more (λ x. K x (Some item)) old i d within ∙ ap (λ x. front ++ x ∷ []) (ap (λ x. K x (Some item)) (sym at) ∙ is))
        ∙ append_assoc front (kept ∷ []) (drop (i + 1) old))

    next-item : (d : Doc) → d ≡ get_or old i d → drop i old ≡ d ∷ drop (i + 1) old
    next-item d at = drop_more old i d within ∙ ap (λ x. x ∷ drop (i + 1) old) (sym at)

    pub item-passed : (d : Doc) (all : Option Path) → d ≡ get_or old i d → items_fault (Some item) i (map J (drop i old)) ≡ all → fault_of shapes d item ≡ None
        → items_fault (Some item) (i + 1) (map J (drop (i + 1) old)) ≡ all
    item-passed d all at due none =
        sym (ap (λ o. first_of (under (to_item i) o) (items_fault (Some item) (i + 1) (map J (drop (i + 1) old)))) none)
        ∙ sym (ap (λ xs. items_fault (Some item) i (map J xs)) (next-item d at)) ∙ due

    pub item-fault : (d : Doc) (all : Option Path) (path : Path) → d ≡ get_or old i d → items_fault (Some item) i (map J (drop i old)) ≡ all → fault_of shapes d item ≡ Some path
        → all ≡ Some (to_item i ++ path)
    item-fault d all path at due some =
        sym due ∙ ap (λ xs. items_fault (Some item) i (map J xs)) (next-item d at)
        ∙ ap (λ o. first_of (under (to_item i) o) (items_fault (Some item) (i + 1) (map J (drop (i + 1) old)))) some
