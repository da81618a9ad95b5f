-- A model that was read misses no shape and no kind.
use Rattle.std.proofs.Common.{◌≡◌, ℕ, ◌<◌, Bool, true, List, [], map, length, slice_get, Option, None, Some, IfSome, option_map, option_and_then, Result, Ok, Err, bytes_eq, codes, refl, sym, ap, subst, ◌∙◌, arith}
use Rattle.std.specs.List.{AllByRecursion}
use lib.ListN.{length-map}
use Rattle.std.proofs.lemmas.Option.{slice_get-map}
use Rattle.std.proofs.lemmas.List.Quantifiers.{position-Some}
use Rattle.json_doc.specs.declared.doc.Doc.{Doc}
use Rattle.texts.specs.declared.pairs.Pair.{Pair}
use Rattle.texts.specs.Keys.{value_at}
use Rattle.model_files.specs.declared.fault.ModelFault.{ModelFault}
use Rattle.model_files.specs.declared.fault.ModelFault.TheVariants.{UnknownShape, WrongKind}
use Rattle.model_files.specs.declared.fault.Place.TheVariants.{At}
use Rattle.model_files.specs.Faults.{inside, demand, or_fault}
use Rattle.texts.specs.Calls.{◌>>=◌}
use Rattle.std.specs.Option.{unwrap_or}
use Rattle.model_files.specs.Reading.{Fields, fields_of, text_at, maybe_text, object_at, flag_at}
use Rattle.service_model.specs.declared.members.Roles.{Roles}
use Rattle.service_model.specs.declared.shape.Kind.{Kind}
use Rattle.service_model.specs.declared.shape.Kind.TheVariants as kind
use Rattle.service_model.specs.declared.shape.Location.{Location}
use Rattle.service_model.specs.declared.shape.Member.{Member}
use Rattle.service_model.specs.declared.shape.Shape.{Shape}
use Rattle.service_model.specs.declared.shape.ShapeId.{ShapeId}
use Rattle.service_model.specs.declared.shape.TimeForm.{TimeForm}
use Rattle.service_model.specs.declared.shapes.Structure.{Structure}
use Rattle.service_model.specs.Admission.{kind_of}
use Rattle.service_model.specs.Choices.{kind_named}
use Rattle.service_model.specs.Members.{members_of, member_of, member_at, location_of, time_of, roles_of}
use Rattle.service_model.specs.Numbering.{Names, names_of, outline_of, value_in, text_if, number_of, kind_at, reference, reference_in, structure_in, string_in, is_structure, is_string}
use Rattle.service_model.specs.Numbering as numbering
use Rattle.service_model.specs.Shapes.{have_own_wires, least_of, kind_of_shape, shape_of, shapes_of, structure_if, structure_of, required_of, payload_of, key_if, item_if, key_at, part_at, part_in, some_read}
use Rattle.model_files.proofs.Steps.{same_ok, bind_ok, inside_ok, demand_ok, or_fault_ok, fields_ok, text_at_ok, each_all, each_place}

-- a name that has a number
numbered : (names : Names) (name : List ℕ) (number : ℕ) (id : ShapeId) → number_of names name ≡ Some number
    → ◌≡◌ {A = Result ShapeId ModelFault} (Ok (record { 0 = number })) (Ok id) → id.0 < length names
numbered names name number id found is =
    let bound = (position-Some (bytes_eq name) (map (λ e. e.0) names) number [] found).0 in
    let same : number ≡ id.0 = ap (λ i. i.0) (same_ok (record { 0 = number }) id is) in
    omega (arith, bound, same, length-map names (λ e. e.0))

pub reference_within : (names : Names) (fields : Fields) (id : ShapeId) → reference names fields ≡ Ok id → id.0 < length names
unfolding reference
reference_within names fields id e =
    bind_ok (text_at (codes "shape") fields) (λ name. or_fault (UnknownShape (At (codes "shape"))) (number_of names name) >>= (λ number. Ok (record { 0 = number }))) id e (λ name named rest.
    bind_ok (or_fault (UnknownShape (At (codes "shape"))) (number_of names name)) (λ number. Ok (record { 0 = number })) id rest (λ number found is.
    numbered names name number id (or_fault_ok (UnknownShape (At (codes "shape"))) (number_of names name) number found) is))

pub reference_in_within : (names : Names) (doc : Doc) (id : ShapeId) → reference_in names doc ≡ Ok id → id.0 < length names
unfolding reference_in
reference_in_within names doc id e =
    bind_ok (fields_of doc) (reference names) id e (λ fields there is. reference_within names fields id is)

a_structure : (k : Option Kind) → is_structure k ≡ true → k ≡ Some kind.Structure
a_structure None e = absurd (cc)
a_structure (Some kind.Structure) e = refl
a_structure (Some kind.List) e = absurd (cc)
a_structure (Some kind.Map) e = absurd (cc)
a_structure (Some kind.Str) e = absurd (cc)
a_structure (Some kind.Integer) e = absurd (cc)
a_structure (Some kind.Long) e = absurd (cc)
a_structure (Some kind.Float) e = absurd (cc)
a_structure (Some kind.Double) e = absurd (cc)
a_structure (Some kind.Boolean) e = absurd (cc)
a_structure (Some kind.Blob) e = absurd (cc)
a_structure (Some kind.Timestamp) e = absurd (cc)

a_string : (k : Option Kind) → is_string k ≡ true → k ≡ Some kind.Str
a_string None e = absurd (cc)
a_string (Some kind.Structure) e = absurd (cc)
a_string (Some kind.List) e = absurd (cc)
a_string (Some kind.Map) e = absurd (cc)
a_string (Some kind.Str) e = refl
a_string (Some kind.Integer) e = absurd (cc)
a_string (Some kind.Long) e = absurd (cc)
a_string (Some kind.Float) e = absurd (cc)
a_string (Some kind.Double) e = absurd (cc)
a_string (Some kind.Boolean) e = absurd (cc)
a_string (Some kind.Blob) e = absurd (cc)
a_string (Some kind.Timestamp) e = absurd (cc)

pub structure_in_ok : (names : Names) (doc : Doc) (id : ShapeId) → structure_in names doc ≡ Ok id → kind_at names id ≡ Some kind.Structure
unfolding structure_in
structure_in_ok names doc id e =
    bind_ok (reference_in names doc) (λ i. demand (is_structure (kind_at names i)) (WrongKind (At (codes "shape"))) (Ok i)) id e (λ i there is.
    let holds = demand_ok (is_structure (kind_at names i)) (WrongKind (At (codes "shape"))) (Ok i) id is in
    ap (kind_at names) (sym (same_ok i id holds.1)) ∙ a_structure (kind_at names i) holds.0)

string_in_ok : (names : Names) (doc : Doc) (id : ShapeId) → string_in names doc ≡ Ok id → kind_at names id ≡ Some kind.Str
unfolding string_in
string_in_ok names doc id e =
    bind_ok (reference_in names doc) (λ i. demand (is_string (kind_at names i)) (WrongKind (At (codes "shape"))) (Ok i)) id e (λ i there is.
    let holds = demand_ok (is_string (kind_at names i)) (WrongKind (At (codes "shape"))) (Ok i) id is in
    ap (kind_at names) (sym (same_ok i id holds.1)) ∙ a_string (kind_at names i) holds.0)

part_in_ok : (names : Names) (read : Names → Doc → Result ShapeId ModelFault) (P : ShapeId → Type 0) → ((doc : Doc) (id : ShapeId) → read names doc ≡ Ok id → P id)
    → (key : List ℕ) (o : Option Doc) (id : ShapeId) → part_in read names key o ≡ Ok id → P id
part_in_ok names read P one key None id e = absurd (cc)
part_in_ok names read P one key (Some doc) id e = one doc id (inside_ok key (read names doc) id e)

some_read_ok : (P : ShapeId → Type 0) (read : Result ShapeId ModelFault) → ((id : ShapeId) → read ≡ Ok id → P id) → (o : Option ShapeId) → some_read read ≡ Ok o → IfSome o P
some_read_ok P (Ok id) one o e = subst (λ x. IfSome x P) (same_ok (Some id) o e) (one id refl)
some_read_ok P (Err fault) one o e = absurd (cc)

no_part : (P : ShapeId → Type 0) (o : Option ShapeId) → ◌≡◌ {A = Result (Option ShapeId) ModelFault} (Ok None) (Ok o) → IfSome o P
no_part P o e = subst (λ x. IfSome x P) (same_ok None o e) tt

key_ok : (names : Names) (k : Kind) (fields : Fields) (o : Option ShapeId) → key_if k names fields ≡ Ok o → IfSome o (λ id. kind_at names id ≡ Some kind.Str)
unfolding key_if key_at
key_ok names kind.Map fields o e =
    some_read_ok (λ id. kind_at names id ≡ Some kind.Str) (key_at names fields)
    (part_in_ok names string_in (λ id. kind_at names id ≡ Some kind.Str) (string_in_ok names) (codes "key") (value_at (codes "key") fields)) o e
key_ok names kind.Structure fields o e = no_part (λ id. kind_at names id ≡ Some kind.Str) o e
key_ok names kind.List fields o e = no_part (λ id. kind_at names id ≡ Some kind.Str) o e
key_ok names kind.Str fields o e = no_part (λ id. kind_at names id ≡ Some kind.Str) o e
key_ok names kind.Integer fields o e = no_part (λ id. kind_at names id ≡ Some kind.Str) o e
key_ok names kind.Long fields o e = no_part (λ id. kind_at names id ≡ Some kind.Str) o e
key_ok names kind.Float fields o e = no_part (λ id. kind_at names id ≡ Some kind.Str) o e
key_ok names kind.Double fields o e = no_part (λ id. kind_at names id ≡ Some kind.Str) o e
key_ok names kind.Boolean fields o e = no_part (λ id. kind_at names id ≡ Some kind.Str) o e
key_ok names kind.Blob fields o e = no_part (λ id. kind_at names id ≡ Some kind.Str) o e
key_ok names kind.Timestamp fields o e = no_part (λ id. kind_at names id ≡ Some kind.Str) o e

part_ok : (names : Names) (key : List ℕ) (fields : Fields) (id : ShapeId) → part_at names key fields ≡ Ok id → id.0 < length names
unfolding part_at
part_ok names key fields = part_in_ok names reference_in (λ id. id.0 < length names) (reference_in_within names) key (value_at key fields)

item_ok : (names : Names) (k : Kind) (fields : Fields) (o : Option ShapeId) → item_if k names fields ≡ Ok o → IfSome o (λ id. id.0 < length names)
unfolding item_if
item_ok names kind.List fields o e = some_read_ok (λ id. id.0 < length names) (part_at names (codes "member") fields) (part_ok names (codes "member") fields) o e
item_ok names kind.Map fields o e = some_read_ok (λ id. id.0 < length names) (part_at names (codes "value") fields) (part_ok names (codes "value") fields) o e
item_ok names kind.Structure fields o e = no_part (λ id. id.0 < length names) o e
item_ok names kind.Str fields o e = no_part (λ id. id.0 < length names) o e
item_ok names kind.Integer fields o e = no_part (λ id. id.0 < length names) o e
item_ok names kind.Long fields o e = no_part (λ id. id.0 < length names) o e
item_ok names kind.Float fields o e = no_part (λ id. id.0 < length names) o e
item_ok names kind.Double fields o e = no_part (λ id. id.0 < length names) o e
item_ok names kind.Boolean fields o e = no_part (λ id. id.0 < length names) o e
item_ok names kind.Blob fields o e = no_part (λ id. id.0 < length names) o e
item_ok names kind.Timestamp fields o e = no_part (λ id. id.0 < length names) o e

member_rest : (name : List ℕ) (id : ShapeId) (location : Option Location) (wire : Result (Option (List ℕ)) ModelFault) (time : Result (Option TimeForm) ModelFault) (roles : Result Roles ModelFault) (m : Member)
    → wire >>= (λ w. time >>= (λ t. roles >>= (λ r. Ok (record {
      name = name;
      wire = unwrap_or w name;
      shape = id;
      location = location;
      time = t;
      token = r.token;
      json_value = r.json_value;
      host_label = r.host_label;
      context = r.context;
    })))) ≡ Ok m → m.shape ≡ id
member_rest name id location (Ok w) (Ok t) (Ok r) m e = sym (ap (λ n. n.shape) (same_ok _ m e))
member_rest name id location (Err f) time roles m e = absurd (cc)
member_rest name id location (Ok w) (Err f) roles m e = absurd (cc)
member_rest name id location (Ok w) (Ok t) (Err f) m e = absurd (cc)

member_at_shape : (names : Names) (p : Pair Doc) (fields : Fields) (id : ShapeId) (location : Option Location) (m : Member) → member_at names p fields id location ≡ Ok m → m.shape ≡ id
unfolding member_at
member_at_shape names p fields id location m e = member_rest p.key id location (maybe_text (codes "locationName") fields) (time_of fields) (roles_of names fields id) m e

member_within : (names : Names) (p : Pair Doc) (m : Member) → member_of names p ≡ Ok m → m.shape.0 < length names
unfolding member_of
member_within names p m e =
    bind_ok (fields_of p.value) (λ fields. reference names fields >>= (λ id. location_of names fields id >>= (λ location. member_at names p fields id location))) m e (λ fields a rest.
    bind_ok (reference names fields) (λ id. location_of names fields id >>= (λ location. member_at names p fields id location)) m rest (λ id there others.
    bind_ok (location_of names fields id) (λ location. member_at names p fields id location) m others (λ location b is.
    subst (λ i. i.0 < length names) (sym (member_at_shape names p fields id location m is)) (reference_within names fields id there))))

structure_rest : (members : List Member) (required : Result (List (List ℕ)) ModelFault) (payload : Result (Option (List ℕ)) ModelFault) (is_union document exception events : Result Bool ModelFault) (s : Structure)
    → required >>= (λ r. payload >>= (λ p. is_union >>= (λ u. document >>= (λ d. exception >>= (λ x. events >>= (λ v.
    Ok (record { members = members; required = r; payload = p; is_union = u; document = d; exception = x; events = v }))))))) ≡ Ok s → members ≡ s.members
structure_rest members (Ok r) (Ok p) (Ok u) (Ok d) (Ok x) (Ok v) s e = ap (λ t. t.members) (same_ok _ s e)
structure_rest members (Err f) payload is_union document exception events s e = absurd (cc)
structure_rest members (Ok r) (Err f) is_union document exception events s e = absurd (cc)
structure_rest members (Ok r) (Ok p) (Err f) document exception events s e = absurd (cc)
structure_rest members (Ok r) (Ok p) (Ok u) (Err f) exception events s e = absurd (cc)
structure_rest members (Ok r) (Ok p) (Ok u) (Ok d) (Err f) events s e = absurd (cc)
structure_rest members (Ok r) (Ok p) (Ok u) (Ok d) (Ok x) (Err f) s e = absurd (cc)

structure_members : (names : Names) (fields : Fields) (s : Structure) → structure_of names fields ≡ Ok s → AllByRecursion (λ m. m.shape.0 < length names) s.members
unfolding structure_of
structure_members names fields s e =
    bind_ok (object_at (codes "members") fields) _ s e (λ pairs a e1.
    bind_ok (inside (codes "members") (members_of names pairs)) (λ members. required_of members fields >>= (λ r. payload_of members fields >>= (λ p. flag_at (codes "union") fields >>= (λ u. flag_at (codes "document") fields >>= (λ d. flag_at (codes "exception") fields >>= (λ x. flag_at (codes "eventstream") fields >>= (λ v.
    Ok (record { members = members; required = r; payload = p; is_union = u; document = d; exception = x; events = v })))))))) s e1 (λ members read e2.
    subst (λ ms. AllByRecursion (λ m. m.shape.0 < length names) ms)
    (structure_rest members (required_of members fields) (payload_of members fields) (flag_at (codes "union") fields) (flag_at (codes "document") fields) (flag_at (codes "exception") fields) (flag_at (codes "eventstream") fields) s e2)
    (each_all (member_of names) (λ m. m.shape.0 < length names) (member_within names) pairs members (inside_ok (codes "members") (members_of names pairs) members read))))

no_members : (names : Names) (t s : Structure) → ◌≡◌ {A = Result Structure ModelFault} (Ok t) (Ok s) → t.members ≡ [] → AllByRecursion (λ m. m.shape.0 < length names) s.members
no_members names t s e none = subst (λ ms. AllByRecursion (λ m. m.shape.0 < length names) ms) (sym none ∙ ap (λ x. x.members) (same_ok t s e)) tt

members_within : (names : Names) (k : Kind) (fields : Fields) (s : Structure) → structure_if k names fields ≡ Ok s → AllByRecursion (λ m. m.shape.0 < length names) s.members
unfolding structure_if
members_within names kind.Structure fields s e = structure_members names fields s e
members_within names kind.List fields s e = no_members names _ s e refl
members_within names kind.Map fields s e = no_members names _ s e refl
members_within names kind.Str fields s e = no_members names _ s e refl
members_within names kind.Integer fields s e = no_members names _ s e refl
members_within names kind.Long fields s e = no_members names _ s e refl
members_within names kind.Float fields s e = no_members names _ s e refl
members_within names kind.Double fields s e = no_members names _ s e refl
members_within names kind.Boolean fields s e = no_members names _ s e refl
members_within names kind.Blob fields s e = no_members names _ s e refl
members_within names kind.Timestamp fields s e = no_members names _ s e refl

-- what a shape holds, by the names in its file
abbrev pub HasNamed : Names → Shape → Type 0
HasNamed names shape =
    AllByRecursion (λ m. m.shape.0 < length names) shape.members × IfSome shape.item (λ id. id.0 < length names) × IfSome shape.key (λ id. kind_at names id ≡ Some kind.Str)

kind_read : (doc : Doc) (fields : Fields) (k : Kind) → fields_of doc ≡ Ok fields → kind_of_shape fields ≡ Ok k → numbering.kind_of doc ≡ Some k
unfolding kind_of_shape value_in text_if
kind_read doc fields k there e =
    bind_ok (text_at (codes "type") fields) (λ name. or_fault (WrongKind (At (codes "type"))) (kind_named name)) k e (λ name named is.
    text_at_ok (codes "type") fields name named (λ at found text.
    ap (λ v. option_and_then kind_named (option_and_then text_if (numbering.value_in_view (codes "type") v))) (fields_ok doc fields there)
    ∙ ap (λ o. option_and_then kind_named (option_and_then text_if o)) found
    ∙ ap (λ v. option_and_then kind_named (numbering.text_in_view v)) text
    ∙ or_fault_ok (WrongKind (At (codes "type"))) (kind_named name) k is))

abbrev pub shape_as : List ℕ → Fields → Kind → Structure → Option ShapeId → Option ShapeId → Option TimeForm → Shape
shape_as name fields k s key item time = record {
  name = name;
  kind = k;
  members = s.members;
  has_own_wires = have_own_wires s.members;
  required = s.required;
  payload = s.payload;
  min = least_of fields;
  item = item;
  key = key;
  is_union = s.is_union;
  document = s.document;
  exception = s.exception;
  events = s.events;
  time = time;
}

-- a shape has the kind that its outline tells, and holds what its names name
pub shape_ok : (names : Names) (p : Pair Doc) (shape : Shape) → shape_of names p ≡ Ok shape → (numbering.kind_of p.value ≡ Some shape.kind) × HasNamed names shape
unfolding shape_of
shape_ok names p shape e =
    bind_ok _ _ shape e (λ fields there e1. bind_ok _ _ shape e1 (λ k is_kind e2. bind_ok _ _ shape e2 (λ s is_structure e3. bind_ok _ _ shape e3 (λ key is_key e4.
    bind_ok _ _ shape e4 (λ item is_item e5. bind_ok (time_of fields) (λ time. Ok (shape_as p.key fields k s key item time)) shape e5 (λ time a is.
    subst (λ x. (numbering.kind_of p.value ≡ Some x.kind) × HasNamed names x) (same_ok (shape_as p.key fields k s key item time) shape is)
    (kind_read p.value fields k there is_kind, (members_within names k fields s is_structure, item_ok names k fields item is_item, key_ok names k fields key is_key))))))))

kind_outlined : (p : Pair Doc) → (outline_of p.value).kind ≡ numbering.kind_of p.value
unfolding outline_of
kind_outlined p = refl

-- what is known of a shape by its number is of the shape at that place
kind_at_place : (pairs : Fields) (o : Option (Pair Doc)) (id : ShapeId) → slice_get pairs id.0 ≡ o → kind_at (names_of pairs) id ≡ option_and_then (λ p. numbering.kind_of p.value) o
kind_at_place pairs None id at =
    ap (λ x. option_and_then (λ t. t.kind) (option_map (λ e. e.1) x)) (slice_get-map (λ p. (p.key, outline_of p.value)) pairs id.0 ∙ ap (option_map (λ p. (p.key, outline_of p.value))) at)
kind_at_place pairs (Some p) id at =
    ap (λ x. option_and_then (λ t. t.kind) (option_map (λ e. e.1) x)) (slice_get-map (λ p. (p.key, outline_of p.value)) pairs id.0 ∙ ap (option_map (λ p. (p.key, outline_of p.value))) at)
    ∙ kind_outlined p

same_kind : (pairs : Fields) (shapes : List Shape) (id : ShapeId) (k : Kind) (o : Option (Pair Doc)) → shapes_of (names_of pairs) pairs ≡ Ok shapes
    → slice_get pairs id.0 ≡ o → option_and_then (λ p. numbering.kind_of p.value) o ≡ Some k → kind_of shapes id ≡ Some k
same_kind pairs shapes id k None read at is = absurd (cc)
same_kind pairs shapes id k (Some p) read at is =
    let found = each_place (shape_of (names_of pairs)) pairs shapes id.0 p read at in
    ap (option_map (λ s. s.kind)) found.1 ∙ sym (shape_ok (names_of pairs) p found.0 found.2).0 ∙ is

-- the kind that is known by a name's number is that of the shape
pub kinds_agree : (pairs : Fields) (shapes : List Shape) (id : ShapeId) (k : Kind) → shapes_of (names_of pairs) pairs ≡ Ok shapes → kind_at (names_of pairs) id ≡ Some k → kind_of shapes id ≡ Some k
kinds_agree pairs shapes id k read is = same_kind pairs shapes id k (slice_get pairs id.0) read refl (sym (kind_at_place pairs (slice_get pairs id.0) id refl) ∙ is)
