-- The shape at a member's number has the name that the file gives.
use Rattle.std.proofs.Common.{◌≡◌, ℕ, zero, suc, ◌<◌, Bool, true, false, List, [], ◌∷◌, map, length, get_or, nat_le, slice_get, Some, option_and_then, Result, Ok, bytes_eq, codes, refl, sym, ap, subst, ◌∙◌, arith}
use Rattle.std.specs.Prelude.{Contains}
use Rattle.std.specs.List.{AllByRecursion}
use Rattle.std.proofs.lemmas.Bool.{cond-true, cond-false}
use Rattle.std.proofs.lemmas.Option.{slice_get-map, slice_get-get_or}
use Rattle.std.proofs.lemmas.List.Quantifiers.{position-Some}
use Rattle.std.proofs.lemmas.Slice.Eq.{bytes_eq-Decides}
use Rattle.json_doc.specs.declared.doc.Doc.{Doc, map-Doc}
use Rattle.json_doc.specs.declared.doc.Doc.TheOpen.{Doc-F}
use Rattle.json_doc.specs.declared.doc.Doc.TheViews.{out-Doc}
use Rattle.json_doc.specs.declared.doc.Doc.TheFolds.{every_here-Doc, every_held-Doc}
use Rattle.json_doc.specs.Documents.{IsProper, IsProperValue}
use Rattle.texts.specs.declared.pairs.Pair.{Pair}
use Rattle.texts.specs.Calls.{◌>>=◌}
use Rattle.texts.specs.Keys.{value_at, keys, IsDistinct}
use Rattle.texts.proofs.KeyPlaces.{value_at-place}
use Rattle.model_files.specs.declared.fault.ModelFault.{ModelFault}
use Rattle.model_files.specs.declared.fault.ModelFault.TheVariants.{WrongKind}
use Rattle.model_files.specs.declared.fault.Place.TheVariants.{At}
use Rattle.model_files.specs.Faults.{inside, demand, each}
use Rattle.model_files.specs.Reading.{Fields, fields_of, object_at, needed}
use Rattle.model_files.proofs.Steps.{same_ok, bind_ok, inside_ok, demand_ok, fields_ok, needed_ok, each_length, each_place}
use Rattle.service_model.specs.declared.metadata.Described.{Described}
use Rattle.service_model.specs.declared.operations.Row.{Row}
use Rattle.service_model.specs.declared.shape.Kind.{Kind}
use Rattle.service_model.specs.declared.shape.Kind.TheVariants as kind
use Rattle.service_model.specs.declared.shape.Member.{Member}
use Rattle.service_model.specs.declared.shape.Shape.{Shape}
use Rattle.service_model.specs.declared.shape.ShapeId.{ShapeId}
use Rattle.service_model.specs.declared.shapes.Structure.{Structure}
use Rattle.service_model.specs.Members.{member_of}
use Rattle.service_model.specs.Metadata.{metadata_of}
use Rattle.service_model.specs.Operations.{operations_of}
use Rattle.service_model.specs.Models.{Draft, draft_of, parts_of, entries_of}
use Rattle.service_model.specs.Named.{text_along, name_at, HasNamedShape, MembersHaveNamedShapes}
use Rattle.service_model.specs.Numbering.{Names, names_of, number_of}
use Rattle.service_model.specs.Shapes.{shape_of, shapes_of, structure_if, structure_of, no_structure}
use Rattle.service_model.proofs.KeptShapes.{IsReadMember, member_read, IsReadShape, shape_read, IsReadStructure, structure_read, IsReference, reference_read, value_read, some_at}
use Rattle.service_model.proofs.WholeTables.{names_read}

same_some : {A : Type 0} (x y : A) → Some x ≡ Some y → x ≡ y
same_some x y e = cc

-- a document with what is known of it
abbrev Known : Type 0
Known = (d : Doc) × IsProper d

abbrev held_fields : {X : Type 0} → Doc-F X → List (Pair X)
held_fields (Doc-F.Fields ps) = ps
held_fields others = []

abbrev plain : Pair Known → Pair Doc
plain p = record { key = p.key; value = p.value.0 }

plain_fields : (y : Doc-F Known) → held_fields (map-Doc Known Doc (λ e. e.0) y) ≡ map plain (held_fields y)
plain_fields Doc-F.Null = refl
plain_fields (Doc-F.Flag b) = refl
plain_fields (Doc-F.Number n) = refl
plain_fields (Doc-F.Str t) = refl
plain_fields (Doc-F.Items xs) = refl
plain_fields (Doc-F.Fields ps) = refl

known : (es : List (Pair Known)) → AllByRecursion (λ p. IsProper p.value) (map plain es)
known [] = tt
known (e ∷ es) = (e.value.1, known es)

-- what stands in a proper object is proper
proper_values : (doc : Doc) (ps : Fields) → out-Doc doc ≡ Doc-F.Fields ps → IsProper doc → AllByRecursion (λ p. IsProper p.value) ps
proper_values doc ps is proper =
    let held = every_held-Doc IsProperValue doc proper in
    subst (AllByRecursion (λ p. IsProper p.value)) (sym (plain_fields held.0) ∙ ap held_fields (held.1 ∙ is)) (known (held_fields held.0))

-- the keys of a proper object are distinct
proper_keys : (doc : Doc) (ps : Fields) → out-Doc doc ≡ Doc-F.Fields ps → IsProper doc → IsDistinct (keys ps)
proper_keys doc ps is proper = (subst IsProperValue is (every_here-Doc IsProperValue doc proper)).1

proper_value : (key : List ℕ) (ps : Fields) (d : Doc) → AllByRecursion (λ p. IsProper p.value) ps → value_at key ps ≡ Some d → IsProper d
proper_value key [] d all found = absurd (cc)
proper_value key (p ∷ ps) d all found = by (bytes_eq p.key key) refl (λ later. proper_value key ps d all.1 later)
  where
    by : (same : Bool) → bytes_eq p.key key ≡ same → (value_at key ps ≡ Some d → IsProper d) → IsProper d
    by true is others = subst IsProper (same_some p.value d (sym (cond-true (bytes_eq p.key key) (Some p.value) (value_at key ps) is) ∙ found)) all.0
    by false is others = others (sym (cond-false (bytes_eq p.key key) (Some p.value) (value_at key ps) is) ∙ found)

-- an element of a list stands at a place
at_place : {A : Type 0} (xs : List A) (x : A) → Contains xs x → (i : ℕ) × (i < length xs) × (slice_get xs i ≡ Some x)
at_place xs x among = (among.0, among.1, slice_get-get_or xs among.0 x among.1 ∙ ap Some among.2)

-- what each pair of an object gave stands at the place of the pair
module _ {A B : Type 0} (f : Pair A → Result B ModelFault) where
  given_by : (ps : List (Pair A)) (ys : List B) (i : ℕ) (y : B) → each f ps ≡ Ok ys → slice_get ys i ≡ Some y → i < length ys
      → (p : Pair A) × (slice_get ps i ≡ Some p) × (f p ≡ Ok y)
  given_by ps ys i y e at within =
      let pair = some_at ps i (omega (arith, within, each_length f ps ys e)) in
      let made = each_place f ps ys i pair.0 e pair.1 in
      (pair.0, pair.1, made.2 ∙ ap Ok (same_some made.0 y (sym made.1 ∙ at)))

-- the object at a key
object_at_ok : (key : List ℕ) (fields ps : Fields) → object_at key fields ≡ Ok ps → (d : Doc) × (value_at key fields ≡ Some d) × (fields_of d ≡ Ok ps)
unfolding object_at
object_at_ok key fields ps e =
    bind_ok (needed key fields) (λ d. inside key (fields_of d)) ps e (λ d found read.
    (d, needed_ok key fields d found, inside_ok key (fields_of d) ps read))

none_there : {P : Type 0} (s : Structure) (m : Member) → ◌≡◌ {A = Result Structure ModelFault} (Ok no_structure) (Ok s) → Contains s.members m → P
none_there s m e among = let among_none : Contains [] m = subst (λ t. Contains t.members m) (sym (same_ok no_structure s e)) among in absurd (omega (arith, among_none.1))

-- a member of what was read where structures alone have members: a structure was read
structure_there : (k : Kind) (names : Names) (fields : Fields) (s : Structure) (m : Member) → structure_if k names fields ≡ Ok s → Contains s.members m → structure_of names fields ≡ Ok s
unfolding structure_if
structure_there kind.Structure names fields s m e among = e
structure_there kind.List names fields s m e among = none_there s m e among
structure_there kind.Map names fields s m e among = none_there s m e among
structure_there kind.Str names fields s m e among = none_there s m e among
structure_there kind.Integer names fields s m e among = none_there s m e among
structure_there kind.Long names fields s m e among = none_there s m e among
structure_there kind.Float names fields s m e among = none_there s m e among
structure_there kind.Double names fields s m e among = none_there s m e among
structure_there kind.Boolean names fields s m e among = none_there s m e among
structure_there kind.Blob names fields s m e among = none_there s m e among
structure_there kind.Timestamp names fields s m e among = none_there s m e among

parts_read : {P : Type 0} (doc : Doc) (parts : Fields × Fields × Fields) → parts_of doc ≡ Ok parts
    → ((fields : Fields) → fields_of doc ≡ Ok fields → object_at (codes "shapes") fields ≡ Ok parts.2 → P) → P
unfolding parts_of
parts_read doc parts e k =
    let Made : Type 0 = Result (Fields × Fields × Fields) ModelFault in
    let last : Fields → Fields → Fields → Made = λ m o s. demand (nat_le (length s) 1000000) (WrongKind (At (codes "shapes"))) (Ok (m, o, s)) in
    let third : Fields → Fields → Fields → Made = λ f m o. object_at (codes "shapes") f >>= last m o in
    let second : Fields → Fields → Made = λ f m. object_at (codes "operations") f >>= third f m in
    bind_ok (fields_of doc) (λ f. object_at (codes "metadata") f >>= second f) parts e (λ f there e1.
    bind_ok (object_at (codes "metadata") f) (second f) parts e1 (λ m a e2.
    bind_ok (object_at (codes "operations") f) (third f m) parts e2 (λ o b e3.
    bind_ok (object_at (codes "shapes") f) (last m o) parts e3 (λ s at e4.
    let met = demand_ok (nat_le (length s) 1000000) (WrongKind (At (codes "shapes"))) (Ok (m, o, s)) parts e4 in
    k f there (at ∙ ap (λ p. Ok p.2) (same_ok (m, o, s) parts met.1))))))

entries_read : (signs : Bool) (operations pairs : Fields) (entries : List Row × List Shape) → entries_of signs operations pairs ≡ Ok entries → shapes_of (names_of pairs) pairs ≡ Ok entries.1
unfolding entries_of
entries_read signs operations pairs entries e =
    let table : Result (List Shape) ModelFault = shapes_of (names_of pairs) pairs in
    bind_ok (inside (codes "operations") (operations_of (names_of pairs) pairs signs [] operations)) (λ rows. inside (codes "shapes") table >>= (λ shapes. Ok (rows, shapes))) entries e (λ rows a e1.
    bind_ok (inside (codes "shapes") table) (λ shapes. Ok (rows, shapes)) entries e1 (λ shapes read is.
    inside_ok (codes "shapes") table shapes read ∙ ap (λ p. Ok p.1) (same_ok (rows, shapes) entries is)))

-- the shapes of a draft, and the object that they were read from
shapes_read : {P : Type 0} (doc : Doc) (draft : Draft) → draft_of doc ≡ Ok draft
    → ((fields pairs : Fields) → fields_of doc ≡ Ok fields → object_at (codes "shapes") fields ≡ Ok pairs → shapes_of (names_of pairs) pairs ≡ Ok draft.1.1 → P) → P
unfolding draft_of
shapes_read doc draft e k =
    let last : Described → Fields × Fields × Fields → Result Draft ModelFault = λ described parts. entries_of described.signs_by_v4 parts.1 parts.2 >>= (λ entries. Ok (described, entries)) in
    bind_ok (parts_of doc) (λ parts. inside (codes "metadata") (metadata_of parts.0) >>= (λ described. last described parts)) draft e (λ parts are_parts e1.
    bind_ok (inside (codes "metadata") (metadata_of parts.0)) (λ described. last described parts) draft e1 (λ described a e2.
    bind_ok (entries_of described.signs_by_v4 parts.1 parts.2) (λ entries. Ok (described, entries)) draft e2 (λ entries are_entries is.
    parts_read doc parts are_parts (λ fields there at.
    k fields parts.2 there at
    (entries_read described.signs_by_v4 parts.1 parts.2 entries are_entries ∙ ap (λ d. Ok d.1.1) (same_ok (described, entries) draft is))))))

-- the names are the keys
names_are : (pairs : Fields) → map (λ e. e.0) (names_of pairs) ≡ keys pairs
names_are [] = refl
names_are (p ∷ ps) = ap (λ ks. p.key ∷ ks) (names_are ps)

-- the shape with the number of a name has the name
named : (pairs : Fields) (shapes : List Shape) (name : List ℕ) (id : ShapeId) → shapes_of (names_of pairs) pairs ≡ Ok shapes → number_of (names_of pairs) name ≡ Some id.0 → Some name ≡ name_at shapes id
named pairs shapes name id read found =
    let at = position-Some (bytes_eq name) (map (λ e. e.0) (names_of pairs)) id.0 [] found in
    let is : name ≡ get_or (map (λ e. e.0) (names_of pairs)) id.0 [] = (bytes_eq-Decides name (get_or (map (λ e. e.0) (names_of pairs)) id.0 [])).0 at.1 in
    ap Some is ∙ sym (slice_get-get_or (map (λ e. e.0) (names_of pairs)) id.0 [] at.0)
    ∙ ap (λ ks. slice_get ks id.0) (names_are pairs ∙ sym (names_read (names_of pairs) pairs shapes read))
    ∙ slice_get-map (λ s. s.name) shapes id.0

-- one member of one shape
one_named : (doc : Doc) (fields pairs : Fields) (shapes : List Shape) (shape : Shape) (member : Member) → IsProper doc → fields_of doc ≡ Ok fields → object_at (codes "shapes") fields ≡ Ok pairs
    → shapes_of (names_of pairs) pairs ≡ Ok shapes → Contains shapes shape → Contains shape.members member → HasNamedShape doc shapes shape member
one_named doc fields pairs shapes shape member proper there at read in_table in_shape =
    let names : Names = names_of pairs in
    let s = at_place shapes shape in_table in
    let table = object_at_ok (codes "shapes") fields pairs at in
    let p = given_by (shape_of names) pairs shapes s.0 shape read s.2 s.1 in
    let r : IsReadShape names p.0 shape = shape_read names p.0 shape p.2 in
    let in_structure : Contains r.structure.members member = subst (λ ms. Contains ms member) r.members in_shape in
    let structure : IsReadStructure names r.fields r.structure = structure_read names r.fields r.structure (structure_there shape.kind names r.fields r.structure member r.structure_read in_structure) in
    let members = object_at_ok (codes "members") r.fields structure.pairs structure.at in
    let m = at_place r.structure.members member in_structure in
    let q = given_by (member_of names) structure.pairs r.structure.members m.0 member structure.members m.2 m.1 in
    let mr : IsReadMember names q.0 member = member_read names q.0 member q.2 in
    let ref : IsReference names q.0.value member.shape = reference_read names q.0.value mr.fields member.shape mr.there mr.shape in
    let doc_is = fields_ok doc fields there in
    let table_proper : IsProper table.0 = proper_value (codes "shapes") fields table.0 (proper_values doc fields doc_is proper) table.1 in
    let table_is = fields_ok table.0 pairs table.2 in
    let shape_found : value_at shape.name pairs ≡ Some p.0.value =
    ap (λ k. value_at k pairs) r.name ∙ value_at-place pairs s.0 p.0 (proper_keys table.0 pairs table_is table_proper) p.1 in
    let shape_proper : IsProper p.0.value = proper_value shape.name pairs p.0.value (proper_values table.0 pairs table_is table_proper) shape_found in
    let members_proper : IsProper members.0 = proper_value (codes "members") r.fields members.0 (proper_values p.0.value r.fields (fields_ok p.0.value r.fields r.there) shape_proper) members.1 in
    let member_found : value_at member.name structure.pairs ≡ Some q.0.value =
    ap (λ k. value_at k structure.pairs) mr.name ∙ value_at-place structure.pairs m.0 q.0 (proper_keys members.0 structure.pairs (fields_ok members.0 structure.pairs members.2) members_proper) q.1 in
    ap (option_and_then (text_along (shape.name ∷ codes "members" ∷ member.name ∷ codes "shape" ∷ []))) (value_read (codes "shapes") doc fields there ∙ table.1)
    ∙ ap (option_and_then (text_along (codes "members" ∷ member.name ∷ codes "shape" ∷ []))) (value_read shape.name table.0 pairs table.2 ∙ shape_found)
    ∙ ap (option_and_then (text_along (member.name ∷ codes "shape" ∷ []))) (value_read (codes "members") p.0.value r.fields r.there ∙ members.1)
    ∙ ap (option_and_then (text_along (codes "shape" ∷ []))) (value_read member.name members.0 structure.pairs members.2 ∙ member_found)
    ∙ ref.text ∙ named pairs shapes ref.name member.shape read ref.number

pub members_have_named_shapes : MembersHaveNamedShapes
members_have_named_shapes doc table proper is_read shape member in_table in_shape =
    let draft : Draft = is_read.0 in
    shapes_read doc draft is_read.1 (λ fields pairs there at read.
    one_named doc fields pairs table.shapes shape member proper there at (read ∙ ap Ok (sym is_read.2.1)) in_table in_shape)
