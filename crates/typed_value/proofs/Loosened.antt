-- What is read of a document fits its shape, but for what must be there, least lengths and values, and unions.
use Rattle.std.proofs.Common.{◌≡◌, ℕ, Bool, true, false, ◌&&◌, ◌||◌, if◌then◌else◌, List, [], ◌∷◌, map, get_or, slice_get, Option, None, Some, refl, sym, ap, ◌∙◌, subst}
use Rattle.std.specs.Prelude.{ℤ, IsTrue, option_map, option_and_then, bytes_eq}
use Rattle.std.specs.List.{list_all, All}
use Rattle.std.proofs.lemmas.List.Folds.{list_all-map}
use Rattle.std.proofs.lemmas.Option.{slice_get-map, slice_get_within, slice_get-get_or}
use Rattle.json_doc.specs.declared.doc.Doc.{Doc, map-Doc, roll-Doc}
use Rattle.json_doc.specs.declared.doc.Doc.TheOpen.{Doc-F}
use Rattle.json_doc.specs.declared.doc.Doc.TheFolds.{fold-roll-Doc, ind-Doc}
use Rattle.json_doc.specs.Grammar.{put_all}
use Rattle.service_model.specs.declared.shape.Member.{Member}
use Rattle.service_model.specs.declared.shape.Shape.{Shape}
use Rattle.service_model.specs.declared.shape.ShapeId.{ShapeId}
use Rattle.service_model.specs.Shapes.{names_in}
use Rattle.json_doc.specs.DecimalValue.{whole}
use Rattle.texts.specs.declared.pairs.Pair.{Pair}
use Rattle.texts.specs.Keys.{IsDistinct, put}
use Rattle.typed_value.specs.declared.typed.Typed.{Typed, out-Typed, map-Typed}
use Rattle.typed_value.specs.declared.typed.Typed.TheVariants.{Text, Int, Flag, Items, Fields}
use Rattle.typed_value.specs.declared.typed.Typed.TheOpen.{Typed-F}
use Rattle.typed_value.specs.declared.typed.Typed.TheFolds.{fold_out-Typed}
use Rattle.typed_value.specs.declared.wanted.Wanted.{Wanted}
use Rattle.typed_value.specs.Fits.{Test, with_values, item_fits, member_fits, structure_fits, fields_fit, inside_fits, shape_fits, fits_step, fits_where, fits_of}
use Rattle.typed_value.specs.Kinds.{is_string, is_whole, is_boolean, is_list, is_map, is_structure, takes}
use Rattle.typed_value.specs.Laws.{HaveDistinctMembers, loosened_shape, loosened}
use Rattle.typed_value.specs.Places.{of_shape, member_named}
use Rattle.typed_value.specs.Wire.{Reader, all_there, pair_of, member_sent_as, member_read, field_read, entry_read, items_read, entries_read, structure_read, kind_read, shape_read, read_step, read_of}
use Rattle.typed_value.proofs.Named.{sent-named}
use Rattle.typed_value.proofs.Outer.{out-Text, out-Int, out-Flag, out-Items, out-Fields}

if-some : {A : Type 0} (b : Bool) (o : Option A) (x : A) → (if b then o else None) ≡ Some x → (b ≡ true) × (o ≡ Some x)
if-some true o x e = (refl, e)
if-some false o x e = absurd (cc)

map-some : {A B : Type 0} (f : A → B) (o : Option A) (y : B) → option_map f o ≡ Some y → (x : A) × (o ≡ Some x) × (f x ≡ y)
map-some f None y e = absurd (cc)
map-some f (Some x) y e = (x, refl, cc)

then-some : {A B : Type 0} (f : A → Option B) (o : Option A) (y : B) → option_and_then f o ≡ Some y → (x : A) × (o ≡ Some x) × (f x ≡ Some y)
then-some f None y e = absurd (cc)
then-some f (Some x) y e = (x, refl, e)

cons-some : {X : Type 0} (o : Option X) (os : List (Option X)) (ys : List X) → all_there (o ∷ os) ≡ Some ys
    → (x : X) × (xs : List X) × (o ≡ Some x) × (all_there os ≡ Some xs) × (x ∷ xs ≡ ys)
cons-some o os ys e =
    let first = then-some (λ x. option_map (λ xs. x ∷ xs) (all_there os)) o ys e in
    let others = map-some (λ xs. first.0 ∷ xs) (all_there os) ys first.2 in
    (first.0, others.0, first.1, others.1, others.2)

all-at : {X : Type 0} (P : X → Type 0) (xs : List X) (i : ℕ) (x : X) → All P xs → slice_get xs i ≡ Some x → P x
all-at P xs i x all is =
    let within = slice_get_within xs i x is in
    let found = slice_get-get_or xs i x within in
    let same : get_or xs i x ≡ x = cc in
    subst P same (all i x within)

and-left : (a b : Bool) → (a && b) ≡ true → a ≡ true
and-left true b h = refl
and-left false b h = h

and-right : (a b : Bool) → (a && b) ≡ true → b ≡ true
and-right true b h = h
and-right false b h = absurd (cc)

or-true : (a c : Bool) → ((a || true) || c) ≡ true
or-true true c = refl
or-true false c = refl

-- which shape takes a value doesn't hang on its parts
takes-mapped : {A B : Type 0} (f : A → B) (is_json : Bool) (shape : Shape) (x : Typed-F A) → takes is_json shape (map-Typed A B f x) ≡ takes is_json shape x
takes-mapped f is_json shape Typed-F.Null = refl
takes-mapped f is_json shape (Typed-F.Text t) = refl
takes-mapped f is_json shape (Typed-F.Int n) = refl
takes-mapped f is_json shape (Typed-F.Number n) = refl
takes-mapped f is_json shape (Typed-F.Flag flag) = refl
takes-mapped f is_json shape (Typed-F.Blob bytes) = refl
takes-mapped f is_json shape (Typed-F.Moment t) = refl
takes-mapped f is_json shape (Typed-F.Items xs) = refl
takes-mapped f is_json shape (Typed-F.Fields ps) = refl
takes-mapped f is_json shape (Typed-F.Any doc) = refl

both : (a b : Bool) → a ≡ true → b ≡ true → (a && b) ≡ true
both a b first second = ap (λ x. x && b) first ∙ second

-- a value at a key, put among others
put-passes : {X : Type 0} (p : Pair X → Bool) (ps : List (Pair X)) (k : List ℕ) (v : X) → list_all p ps ≡ true → p (record { key = k; value = v }) ≡ true → list_all p (put ps k v) ≡ true
put-passes p [] k v all one = both _ _ one refl
put-passes p (q ∷ ps) k v all one =
    elim (bytes_eq q.key k) as (λ b. list_all p (if b then record { key = k; value = v } ∷ ps else q ∷ put ps k v) ≡ true) [
      | true ↦ both _ _ one (and-right (p q) (list_all p ps) all)
      | false ↦ both _ _ (and-left (p q) (list_all p ps) all) (put-passes p ps k v (and-right (p q) (list_all p ps) all) one)
    ]

all-put : {X : Type 0} (p : Pair X → Bool) (ps qs : List (Pair X)) → list_all p ps ≡ true → list_all p qs ≡ true → list_all p (put_all ps qs) ≡ true
all-put p ps [] before all = before
all-put p ps (q ∷ qs) before all =
    all-put p (put ps q.key q.value) qs (put-passes p ps q.key q.value before (and-left (p q) (list_all p qs) all)) (and-right (p q) (list_all p qs) all)

module _ (shapes : List Shape) (distinct : HaveDistinctMembers shapes) where
  abbrev fit : Typed → Test
  fit = fits_where (loosened shapes)

  -- what is read of a document fits
  abbrev Good : Doc → Type 0
  Good doc = (id : ShapeId) (v : Typed) (is_json : Bool) → read_of shapes doc id ≡ Some v → fit v (record { shape = id; is_json = is_json }) ≡ true

  abbrev Known : Type 0
  Known = (doc : Doc) × Good doc

  abbrev read : Known → Reader
  read k = read_of shapes k.0

  abbrev readers : Pair Known → Pair Reader
  readers p = record { key = p.key; value = read p.value }

  abbrev Passes : Shape → Typed → Bool → Type 0
  Passes shape v is_json = (takes is_json (loosened_shape shape) (out-Typed v) && inside_fits (loosened_shape shape) (map-Typed Typed Test fit (out-Typed v))) ≡ true

  items : (item : ShapeId) (ks : List Known) (vs : List Typed) → all_there (map (λ r. r item) (map read ks)) ≡ Some vs → list_all (item_fits (Some item)) (map fit vs) ≡ true
  items item [] vs e = let same : [] ≡ vs = cc in ap (λ xs. list_all (item_fits (Some item)) (map fit xs)) (sym same)
  items item (k ∷ ks) vs e =
      let parts = cons-some (read k item) (map (λ r. r item) (map read ks)) vs e in
      ap (λ xs. list_all (item_fits (Some item)) (map fit xs)) (sym parts.4)
      ∙ both _ _ (k.1 item parts.0 false parts.2) (items item ks parts.1 parts.3)

  entries : (item : ShapeId) (ps : List (Pair Known)) (qs : List (Pair Typed)) → all_there (map (entry_read item) (map readers ps)) ≡ Some qs
      → list_all (λ q. item_fits (Some item) (fit q.value)) qs ≡ true
  entries item [] qs e = let same : [] ≡ qs = cc in ap (list_all (λ q. item_fits (Some item) (fit q.value))) (sym same)
  entries item (p ∷ ps) qs e =
      let parts = cons-some (entry_read item (readers p)) (map (entry_read item) (map readers ps)) qs e in
      let one = map-some (pair_of p.key) (read p.value item) parts.0 parts.2 in
      let fits = ap (λ q. fit q.value (of_shape item)) (sym one.2) ∙ p.value.1 item one.0 false one.1 in
      ap (list_all (λ q. item_fits (Some item) (fit q.value))) (sym parts.4) ∙ both _ _ fits (entries item ps parts.1 parts.3)

  abbrev member_passes : List Member → Pair Typed → Bool
  member_passes ms q = member_fits (member_named q.key ms) (fit q.value)

  members : (ms : List Member) (ps : List (Pair Known)) (qs : List (Pair Typed)) → IsDistinct (names_in ms) → all_there (map (field_read ms) (map readers ps)) ≡ Some qs
      → list_all (member_passes ms) qs ≡ true
  members ms [] qs names e = let same : [] ≡ qs = cc in ap (list_all (member_passes ms)) (sym same)
  members ms (p ∷ ps) qs names e =
      let parts = cons-some (field_read ms (readers p)) (map (field_read ms) (map readers ps)) qs e in
      let found = then-some (member_read (read p.value)) (member_sent_as p.key ms) parts.0 parts.2 in
      let m = found.0 in
      let one = map-some (pair_of m.name) (read p.value m.shape) parts.0 found.2 in
      let named = sent-named p.key ms m names found.1 in
      let fits = ap (member_passes ms) (sym one.2) ∙ ap (λ o. member_fits o (fit one.0)) named ∙ p.value.1 m.shape one.0 _ one.1 in
      ap (list_all (member_passes ms)) (sym parts.4) ∙ both _ _ fits (members ms ps parts.1 names parts.3)

  scalar-text : (shape : Shape) (t : List ℕ) (v : Typed) (is_json : Bool) → (if is_string shape.kind then Some (Text t) else None) ≡ Some v → Passes shape v is_json
  scalar-text shape t v is_json e =
      let taken = if-some (is_string shape.kind) (Some (Text t)) v e in
      let same : Text t ≡ v = cc in
      subst (λ x. Passes shape x is_json) same (rw (out-Text t) (ap (λ b. (b || ((is_json || shape.document) && false)) && true) taken.0))

  scalar-int : (shape : Shape) (o : Option ℤ) (v : Typed) (is_json : Bool) → (if is_whole shape.kind then option_map Int o else None) ≡ Some v → Passes shape v is_json
  scalar-int shape o v is_json e =
      let taken = if-some (is_whole shape.kind) (option_map Int o) v e in
      let n = map-some Int o v taken.1 in
      subst (λ x. Passes shape x is_json) n.2 (rw (out-Int n.0) (ap (λ b. (b || ((is_json || shape.document) && false)) && true) taken.0))

  scalar-flag : (shape : Shape) (flag : Bool) (v : Typed) (is_json : Bool) → (if is_boolean shape.kind then Some (Flag flag) else None) ≡ Some v → Passes shape v is_json
  scalar-flag shape flag v is_json e =
      let taken = if-some (is_boolean shape.kind) (Some (Flag flag)) v e in
      let same : Flag flag ≡ v = cc in
      subst (λ x. Passes shape x is_json) same (rw (out-Flag flag) (ap (λ b. (b || ((is_json || shape.document) && false)) && true) taken.0))

  whole-list : (shape : Shape) (ks : List Known) (v : Typed) (is_json : Bool) → (if is_list shape.kind then option_and_then (items_read (map read ks)) shape.item else None) ≡ Some v → Passes shape v is_json
  whole-list shape ks v is_json e =
      let taken = if-some (is_list shape.kind) (option_and_then (items_read (map read ks)) shape.item) v e in
      let known = then-some (items_read (map read ks)) shape.item v taken.1 in
      let made = map-some Items (all_there (map (λ r. r known.0) (map read ks))) v known.2 in
      let fits = ap (λ o. list_all (item_fits o) (map fit made.0)) known.1 ∙ items known.0 ks made.0 made.1 in
      subst (λ x. Passes shape x is_json) made.2 (rw (out-Items made.0) (both _ _ (ap (λ b. b || ((is_json || shape.document) && false)) taken.0) fits))

  whole-map : (shape : Shape) (ps : List (Pair Known)) (v : Typed) (is_json : Bool) → is_map shape.kind ≡ true → option_and_then (entries_read (map readers ps)) shape.item ≡ Some v → Passes shape v is_json
  whole-map shape ps v is_json kind e =
      let known = then-some (entries_read (map readers ps)) shape.item v e in
      let made = map-some Fields (all_there (map (entry_read known.0) (map readers ps))) v known.2 in
      let due = with_values fit made.0 in
      let fits = ap (λ b. if b then list_all (λ p. item_fits shape.item p.value) due else structure_fits (loosened_shape shape) due) kind
      ∙ list_all-map (λ p. item_fits shape.item p.value) (λ p. record { key = p.key; value = fit p.value }) made.0
      ∙ ap (λ o. list_all (λ q. item_fits o (fit q.value)) made.0) known.1 ∙ entries known.0 ps made.0 made.1 in
      subst (λ x. Passes shape x is_json) made.2 (rw (out-Fields made.0) (both _ _ (ap (λ b. (is_structure shape.kind || b) || ((is_json || shape.document) && false)) kind ∙ or-true (is_structure shape.kind) _) fits))

  structure-passes : (shape : Shape) (qs : List (Pair Typed)) → is_map shape.kind ≡ false → list_all (member_passes shape.members) qs ≡ true → fields_fit (loosened_shape shape) (with_values fit qs) ≡ true
  structure-passes shape qs kind all =
      let due = with_values fit qs in
      ap (λ b. if b then list_all (λ p. item_fits shape.item p.value) due else structure_fits (loosened_shape shape) due) kind
      ∙ list_all-map (λ p. member_fits (member_named p.key shape.members) p.value) (λ p. record { key = p.key; value = fit p.value }) qs ∙ all

  whole-structure : (shape : Shape) (ps : List (Pair Known)) (v : Typed) (is_json : Bool) → IsDistinct (names_in shape.members) → is_map shape.kind ≡ false
      → (if is_structure shape.kind then structure_read shape.members (map readers ps) else None) ≡ Some v → Passes shape v is_json
  whole-structure shape ps v is_json names kind e =
      let ms = shape.members in
      let taken = if-some (is_structure shape.kind) (structure_read ms (map readers ps)) v e in
      let made = map-some (λ qs. Fields (put_all [] qs)) (all_there (map (field_read ms) (map readers ps))) v taken.1 in
      let qs = put_all [] made.0 in
      let fits = structure-passes shape qs kind (all-put (member_passes ms) [] made.0 refl (members ms ps made.0 names made.1)) in
      subst (λ x. Passes shape x is_json) made.2 (rw (out-Fields qs) (both _ _ (ap (λ b. (b || is_map shape.kind) || ((is_json || shape.document) && false)) taken.0) fits))

  whole-fields : (shape : Shape) (ps : List (Pair Known)) (v : Typed) (is_json b : Bool) → IsDistinct (names_in shape.members) → is_map shape.kind ≡ b
      → (if b then option_and_then (entries_read (map readers ps)) shape.item else if is_structure shape.kind then structure_read shape.members (map readers ps) else None) ≡ Some v
      → Passes shape v is_json
  whole-fields shape ps v is_json true names kind e = whole-map shape ps v is_json kind e
  whole-fields shape ps v is_json false names kind e = whole-structure shape ps v is_json names kind e

  by-kind : (shape : Shape) (y : Doc-F Known) (v : Typed) (is_json : Bool) → IsDistinct (names_in shape.members) → kind_read shape (map-Doc Known Reader read y) ≡ Some v → Passes shape v is_json
  by-kind shape Doc-F.Null v is_json names e = absurd (cc)
  by-kind shape (Doc-F.Flag flag) v is_json names e = scalar-flag shape flag v is_json e
  by-kind shape (Doc-F.Number n) v is_json names e = scalar-int shape (whole n) v is_json e
  by-kind shape (Doc-F.Str t) v is_json names e = scalar-text shape t v is_json e
  by-kind shape (Doc-F.Items ks) v is_json names e = whole-list shape ks v is_json e
  by-kind shape (Doc-F.Fields ps) v is_json names e = whole-fields shape ps v is_json (is_map shape.kind) names refl e

  document : (shape : Shape) (b : Bool) (o : Option Typed) (v : Typed) → (if b then None else o) ≡ Some v → o ≡ Some v
  document shape true o v e = absurd (cc)
  document shape false o v e = e

  -- a value at a shape, once its layer passes
  layer-fits : (v : Typed) (w : Wanted) (shape : Shape) → slice_get shapes w.shape.0 ≡ Some shape → Passes shape v w.is_json → fit v w ≡ true
  layer-fits v w shape at passes =
      let x = map-Typed Typed Test fit (out-Typed v) in
      let there = slice_get-map loosened_shape shapes w.shape.0 ∙ ap (option_map loosened_shape) at in
      ap (λ t. t w) (fold_out-Typed Test (fits_step (loosened shapes)) v)
      ∙ ap (λ o. shape_fits o x w.is_json) there
      ∙ ap (λ b. b && inside_fits (loosened_shape shape) x) (takes-mapped fit w.is_json (loosened_shape shape) (out-Typed v))
      ∙ passes

  twice-items : (ks : List Known) → map (read_of shapes) (map (λ k. k.0) ks) ≡ map read ks
  twice-items [] = refl
  twice-items (k ∷ ks) = ap (λ rs. read k ∷ rs) (twice-items ks)

  abbrev plain : Pair Known → Pair Doc
  plain p = record { key = p.key; value = p.value.0 }

  abbrev reader : Pair Doc → Pair Reader
  reader p = record { key = p.key; value = read_of shapes p.value }

  twice-fields : (ps : List (Pair Known)) → map reader (map plain ps) ≡ map readers ps
  twice-fields [] = refl
  twice-fields (p ∷ ps) = ap (λ rs. readers p ∷ rs) (twice-fields ps)

  twice : (y : Doc-F Known) → map-Doc Doc Reader (read_of shapes) (map-Doc Known Doc (λ k. k.0) y) ≡ map-Doc Known Reader read y
  twice Doc-F.Null = refl
  twice (Doc-F.Flag flag) = refl
  twice (Doc-F.Number n) = refl
  twice (Doc-F.Str t) = refl
  twice (Doc-F.Items ks) = ap Doc-F.Items (twice-items ks)
  twice (Doc-F.Fields ps) = ap Doc-F.Fields (twice-fields ps)

  layer : (y : Doc-F Known) → Good (roll-Doc (map-Doc Known Doc (λ k. k.0) y))
  layer y = λ id v is_json e.
      let x = map-Doc Known Doc (λ k. k.0) y in
      let opened = sym (ap (λ r. r id) (fold-roll-Doc Reader (read_step shapes) x ∙ ap (read_step shapes) (twice y))) ∙ e in
      let known = then-some (shape_read (map-Doc Known Reader read y)) (slice_get shapes id.0) v opened in
      let shape = known.0 in
      let names = all-at (λ s. IsDistinct (names_in s.members)) shapes id.0 shape distinct known.1 in
      let made = document shape shape.document (kind_read shape (map-Doc Known Reader read y)) v known.2 in
      layer-fits v (record { shape = id; is_json = is_json }) shape known.1 (by-kind shape y v is_json names made)

  good : (doc : Doc) → Good doc
  good = ind-Doc Good (λ x y is. subst (λ z. Good (roll-Doc z)) is (layer y))

-- the law
pub fits_loosened : (shapes : List Shape) (id : ShapeId) (doc : Doc) (value : Typed) → HaveDistinctMembers shapes → read_of shapes doc id ≡ Some value → IsTrue (fits_of (loosened shapes) id value)
fits_loosened shapes id doc value distinct read_it = good shapes distinct doc id value false read_it
