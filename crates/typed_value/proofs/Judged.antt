-- The faults of the parts of a value, one after another.
use Rattle.std.proofs.Common.{◌≡◌, ℕ, ◌+◌, ◌<◌, true, false, if◌then◌else◌, List, [], ◌∷◌, ◌++◌, map, length, get_or, drop, Option, None, Some, refl, sym, ap, ◌∙◌, append_assoc, append-nil}
use Rattle.std.specs.List.{flat_map}
use Rattle.std.proofs.lemmas.List.{drop_more, length-map}
use Rattle.std.proofs.lemmas.List.Folds.{flat_map-map}
use Rattle.service_model.specs.declared.shape.Member.{Member}
use Rattle.service_model.specs.declared.shape.Shape.{Shape}
use Rattle.service_model.specs.declared.shape.ShapeId.{ShapeId}
use Rattle.texts.specs.declared.pairs.Pair.{Pair}
use Rattle.typed_value.specs.declared.fault.ValueFault.{ValueFault}
use Rattle.typed_value.specs.declared.fault.ValueFault.TheVariants.{Missing}
use Rattle.typed_value.specs.declared.typed.Typed.{Typed}
use Rattle.typed_value.specs.declared.wanted.Wanted.{Wanted}
use Rattle.typed_value.specs.Faults.{Judge, item_faults, items_faults, union_faults, missing_faults, unknown_faults, member_faults, structure_faults, fields_faults, faults_where}
use Rattle.typed_value.specs.Fits.{with_values}
use Rattle.typed_value.specs.Kinds.{is_map}
use Rattle.typed_value.specs.Paths.{below, item_path, shown}
use Rattle.typed_value.specs.Places.{of_shape, of_member, member_named}
use Rattle.typed_value.proofs.Fitted.{keyed-same}

-- one item more of a list
pub items-next : (shapes : List Shape) (item : Option ShapeId) (path : List ℕ) (vs : List Typed) (i : ℕ) (v : Typed) (whole mid new : List ValueFault) → i < length vs → v ≡ get_or vs i v
    → mid ++ items_faults item path i (map (faults_where shapes) (drop i vs)) ≡ whole
    → new ≡ mid ++ item_faults item (item_path path i) (faults_where shapes v)
    → new ++ items_faults item path (i + 1) (map (faults_where shapes) (drop (i + 1) vs)) ≡ whole
items-next shapes item path vs i v whole mid new within at so_far next =
    let here = item_faults item (item_path path i) (faults_where shapes v) in
    let later = items_faults item path (i + 1) (map (faults_where shapes) (drop (i + 1) vs)) in
    let split = drop_more vs i v within ∙ ap (λ x. x ∷ drop (i + 1) vs) (sym at) in
    ap (λ fs. fs ++ later) next ∙ append_assoc mid here later
    ∙ sym (ap (λ xs. mid ++ items_faults item path i (map (faults_where shapes) xs)) split) ∙ so_far

-- The faults of a part, as it was judged at the root of its table.
pub item-judged : (shapes : List Shape) (v root : Typed) (w : Wanted) (item : Option ShapeId) (id : ShapeId) (path inside : List ℕ) (mid new : List ValueFault)
    → item ≡ Some id → w ≡ of_shape id → root ≡ v → inside ≡ path → new ≡ mid ++ faults_where shapes root w inside → new ≡ mid ++ item_faults item path (faults_where shapes v)
item-judged shapes v root w item id path inside mid new known wanted same place judged =
    judged
    ∙ ap (λ fs. mid ++ fs) (ap (λ x. faults_where shapes x w inside) same ∙ ap (λ x. faults_where shapes v x inside) wanted ∙ ap (faults_where shapes v (of_shape id)) place
    ∙ sym (ap (λ o. item_faults o path (faults_where shapes v)) known))

pub member-judged : (shapes : List Shape) (v root : Typed) (w : Wanted) (found : Option Member) (m : Member) (path inside : List ℕ) (mid new : List ValueFault)
    → found ≡ Some m → w ≡ of_member m → root ≡ v → inside ≡ path → new ≡ mid ++ faults_where shapes root w inside → new ≡ mid ++ member_faults path (faults_where shapes v) found
member-judged shapes v root w found m path inside mid new known wanted same place judged =
    judged
    ∙ ap (λ fs. mid ++ fs) (ap (λ x. faults_where shapes x w inside) same ∙ ap (λ x. faults_where shapes v x inside) wanted ∙ ap (faults_where shapes v (of_member m)) place
    ∙ sym (ap (member_faults path (faults_where shapes v)) known))

-- where the shape of the items isn't known there are no faults
pub items-none : (old : List ValueFault) (path : List ℕ) (n : ℕ) (judges : List Judge) → old ≡ old ++ items_faults None path n judges
items-none old path n [] = sym (append-nil old)
items-none old path n (judge ∷ judges) = items-none old path (n + 1) judges

flat-alike : {X : Type 0} (f g : X → List ValueFault) (xs : List X) → ((x : X) → f x ≡ g x) → flat_map f xs ≡ flat_map g xs
flat-alike f g [] same = refl
flat-alike f g (x ∷ xs) same = ap (λ fs. fs ++ flat_map f xs) (same x) ∙ ap (λ fs. g x ++ fs) (flat-alike f g xs same)

-- Entries, each with what is made of its value.
module _ (f : Typed → Judge) (id : ShapeId) (shape : Shape) (path : List ℕ) (ps : List (Pair Typed)) where
  abbrev judged : Pair Typed → Pair Judge
  judged p = record { key = p.key; value = f p.value }

  pub faults-map : is_map shape.kind ≡ true → fields_faults id shape path (with_values f ps) ≡ flat_map (λ p. item_faults shape.item (below path p.key) (f p.value)) ps
  faults-map map_kind =
      let due = with_values f ps in
      ap (λ b. if b then flat_map (λ p. item_faults shape.item (below path p.key) p.value) due else structure_faults id shape path due) map_kind
      ∙ flat_map-map (λ p. item_faults shape.item (below path p.key) p.value) judged ps

  missing-alike : (name : List ℕ) → missing_faults path (with_values f ps) name ≡ missing_faults path ps name
  missing-alike name = ap (λ b. if b then [] else Missing (shown path) name ∷ []) (keyed-same f ps name)

  pub faults-structure : is_map shape.kind ≡ false → fields_faults id shape path (with_values f ps)
      ≡ union_faults shape path (length ps) ++ flat_map (missing_faults path ps) shape.required
      ++ flat_map (λ p. unknown_faults id path p.key (member_named p.key shape.members)) ps
      ++ flat_map (λ p. member_faults (below path p.key) (f p.value) (member_named p.key shape.members)) ps
  faults-structure other_kind =
      let due = with_values f ps in
      let unknown = flat_map-map (λ p. unknown_faults id path p.key (member_named p.key shape.members)) judged ps in
      let members = flat_map-map (λ p. member_faults (below path p.key) p.value (member_named p.key shape.members)) judged ps in
      let missing = flat-alike (missing_faults path due) (missing_faults path ps) shape.required missing-alike in
      let us = flat_map (λ p. unknown_faults id path p.key (member_named p.key shape.members)) due in
      let ms = flat_map (λ p. member_faults (below path p.key) p.value (member_named p.key shape.members)) due in
      ap (λ b. if b then flat_map (λ p. item_faults shape.item (below path p.key) p.value) due else structure_faults id shape path due) other_kind
      ∙ ap (λ n. union_faults shape path n ++ flat_map (missing_faults path due) shape.required ++ us ++ ms) (length-map ps judged)
      ∙ ap (λ fs. union_faults shape path (length ps) ++ fs ++ us ++ ms) missing
      ∙ ap (λ fs. union_faults shape path (length ps) ++ flat_map (missing_faults path ps) shape.required ++ fs ++ ms) unknown
      ∙ ap (λ fs. union_faults shape path (length ps) ++ flat_map (missing_faults path ps) shape.required
      ++ flat_map (λ p. unknown_faults id path p.key (member_named p.key shape.members)) ps ++ fs) members
