-- What the shapes of a model that was read keep.
use Rattle.std.proofs.Common.{◌≡◌, ℕ, ◌+◌, zero, suc, ◌<◌, Bool, true, false, not, ◌&&◌, ◌||◌, List, [], ◌∷◌, map, length, get_or, slice_get, Option, None, Some, IfSome, IsSomeAnd, option_map, option_and_then, cond, Result, Ok, Err, bytes_eq, codes, refl, sym, ap, subst, ◌∙◌, arith}
use Rattle.std.specs.List.{All, AllByRecursion, list_any}
use Rattle.std.specs.Map.{lookup}
use Rattle.std.specs.Fmt.{decimal}
use Rattle.std.specs.Option.{unwrap_or}
use lib.ListN.{length-map}
use Rattle.std.proofs.lemmas.Option.{slice_get-map, IfSome_then}
use Rattle.std.proofs.lemmas.List.Elements.{All-from_recursion, All-nil}
use Rattle.std.proofs.lemmas.List.Quantifiers.{position-Some}
use Rattle.std.proofs.lemmas.Slice.Eq.{bytes_eq-Decides}
use Rattle.json_doc.specs.declared.doc.Doc.{Doc}
use Rattle.texts.specs.declared.pairs.Pair.{Pair}
use Rattle.texts.specs.Keys.{value_at, keys, IsDistinct}
use Rattle.model_files.specs.declared.fault.ModelFault.{ModelFault}
use Rattle.model_files.specs.declared.fault.ModelFault.TheVariants.{UnknownShape, WrongKind}
use Rattle.model_files.specs.declared.fault.Place.TheVariants.{Whole, At}
use Rattle.model_files.specs.Faults.{inside, demand, or_fault, each_from}
use Rattle.texts.specs.Calls.{◌>>=◌}
use Rattle.model_files.specs.Reading.{Fields, fields_of, text_of, items_of, text_at, maybe_text, object_at, flag_at}
use Rattle.model_files.proofs.Steps.{same_ok, bind_ok, inside_ok, demand_ok, or_fault_ok, fields_ok, text_at_ok, each_all, each_place}
use Rattle.service_model.specs.declared.members.Roles.{Roles}
use Rattle.service_model.specs.declared.numbering.Outline.{Outline}
use Rattle.service_model.specs.declared.shape.Kind.{Kind}
use Rattle.service_model.specs.declared.shape.Kind.TheVariants as kind
use Rattle.service_model.specs.declared.shape.Location.{Location}
use Rattle.service_model.specs.declared.shape.Location.TheVariants as location
use Rattle.service_model.specs.declared.shape.Member.{Member}
use Rattle.service_model.specs.declared.shape.Shape.{Shape}
use Rattle.service_model.specs.declared.shape.ShapeId.{ShapeId}
use Rattle.service_model.specs.declared.shape.TimeForm.{TimeForm}
use Rattle.service_model.specs.declared.shapes.Structure.{Structure}
use Rattle.service_model.specs.Arguments.{kind_of}
use Rattle.service_model.specs.Choices.{location_named}
use Rattle.service_model.specs.Kept.{HasOwnNames, IsWithin, IsOfKind, item_at, item_kind, inner_kind, are_scalars, takes, IsMember, HasItems, IsShape}
use Rattle.service_model.specs.Locations.{is_scalar, is_list, is_map, has_item, is_scalar_or_list, is_map_of_these, can_be_at, can_stand, is_scalar_shape}
use Rattle.service_model.specs.Members.{members_of, member_of, member_at, location_of, location_in, standing, time_of, roles_of, host_label_of, context_of}
use Rattle.service_model.specs.Numbering.{Names, names_of, outline_of, outline_at, item_outline, value_in, value_in_view, text_in, text_if, text_in_view, named_at, item_of, number_of, kind_at, reference, reference_in, is_string}
use Rattle.service_model.specs.Numbering as numbering
use Rattle.service_model.specs.Shapes.{have_own_wires, kind_of_shape, shape_of, shapes_of, structure_if, structure_of, no_structure, name_among, names_in, names_member, member_list, required_in, required_of, payload_in, payload_of, key_if, item_if, key_at, part_at, part_in, some_read}
use Rattle.service_model.proofs.Soundness.{shape_as, shape_ok, reference_within, kinds_agree}

module _ {A B : Type 0} (f : A → Result B ModelFault) where
  -- what each item gives has a property that each gives alone
  from_all : (Q : B → Type 0) → ((x : A) (y : B) → f x ≡ Ok y → Q y) → (at : ℕ) (xs : List A) (ys : List B) → each_from f at xs ≡ Ok ys → AllByRecursion Q ys
  from_all Q one at [] ys e = subst (AllByRecursion Q) (same_ok [] ys e) tt
  from_all Q one at (x ∷ xs) ys e =
      bind_ok (inside (decimal at) (f x)) (λ y. each_from f (at + 1) xs >>= (λ others. Ok (y ∷ others))) ys e (λ y first then_rest.
      bind_ok (each_from f (at + 1) xs) (λ others. Ok (y ∷ others)) ys then_rest (λ others rest all.
      subst (AllByRecursion Q) (same_ok (y ∷ others) ys all) (one x y (inside_ok (decimal at) (f x) y first), from_all Q one (at + 1) xs others rest)))

abbrev member_as : List ℕ → ShapeId → Option Location → Option (List ℕ) → Option TimeForm → Roles → Member
member_as name id location wire time roles = record {
  name = name;
  wire = unwrap_or wire name;
  shape = id;
  location = location;
  time = time;
  token = roles.token;
  json_value = roles.json_value;
  host_label = roles.host_label;
  context = roles.context;
}

abbrev roles_as : Bool → Bool → Bool → Option (List ℕ) → Roles
roles_as token json_value host_label context = record { token = token; json_value = json_value; host_label = host_label; context = context }

roles_host : (names : Names) (fields : Fields) (id : ShapeId) (r : Roles) → roles_of names fields id ≡ Ok r → host_label_of names fields id ≡ Ok r.host_label
unfolding roles_of
roles_host names fields id r e =
    let last : Bool → Bool → Bool → Result Roles ModelFault = λ t j h. context_of fields >>= (λ c. Ok (roles_as t j h c)) in
    let third : Bool → Bool → Result Roles ModelFault = λ t j. host_label_of names fields id >>= last t j in
    let second : Bool → Result Roles ModelFault = λ t. flag_at (codes "jsonvalue") fields >>= third t in
    bind_ok (flag_at (codes "idempotencyToken") fields) second r e (λ t a e1.
    bind_ok (flag_at (codes "jsonvalue") fields) (third t) r e1 (λ j b e2.
    bind_ok (host_label_of names fields id) (last t j) r e2 (λ h is_h e3.
    bind_ok (context_of fields) (λ c. Ok (roles_as t j h c)) r e3 (λ c d is.
    is_h ∙ ap (λ x. Ok x.host_label) (same_ok (roles_as t j h c) r is)))))

-- what was read of a member
pub record IsReadMember (names : Names) (p : Pair Doc) (m : Member) : Type 0 where
  pub fields : Fields
  pub there : fields_of p.value ≡ Ok fields
  pub shape : reference names fields ≡ Ok m.shape
  pub location : location_of names fields m.shape ≡ Ok m.location
  pub host : host_label_of names fields m.shape ≡ Ok m.host_label
  pub wire : Option (List ℕ)
  pub wire_read : maybe_text (codes "locationName") fields ≡ Ok wire
  pub wire_name : m.wire ≡ unwrap_or wire p.key
  pub name : m.name ≡ p.key

member_made : (names : Names) (p : Pair Doc) (fields : Fields) (id : ShapeId) (location : Option Location) (m : Member) → fields_of p.value ≡ Ok fields
    → reference names fields ≡ Ok id → location_of names fields id ≡ Ok location → member_at names p fields id location ≡ Ok m → IsReadMember names p m
unfolding member_at
member_made names p fields id location m there is_shape is_location e =
    let last : Option (List ℕ) → Option TimeForm → Result Member ModelFault = λ w t. roles_of names fields id >>= (λ r. Ok (member_as p.key id location w t r)) in
    let second : Option (List ℕ) → Result Member ModelFault = λ w. time_of fields >>= last w in
    bind_ok (maybe_text (codes "locationName") fields) second m e (λ w is_wire e1.
    bind_ok (time_of fields) (last w) m e1 (λ t a e2.
    bind_ok (roles_of names fields id) (λ r. Ok (member_as p.key id location w t r)) m e2 (λ r is_roles is.
    let made : member_as p.key id location w t r ≡ m = same_ok (member_as p.key id location w t r) m is in
    subst (IsReadMember names p) made (record {
      fields = fields;
      there = there;
      shape = is_shape;
      location = is_location;
      host = roles_host names fields id r is_roles;
      wire = w;
      wire_read = is_wire;
      wire_name = refl;
      name = refl;
    }))))

pub member_read : (names : Names) (p : Pair Doc) (m : Member) → member_of names p ≡ Ok m → IsReadMember names p m
unfolding member_of
member_read names p m e =
    let last : Fields → ShapeId → Result Member ModelFault = λ fields id. location_of names fields id >>= (λ location. member_at names p fields id location) in
    bind_ok (fields_of p.value) (λ fields. reference names fields >>= last fields) m e (λ fields there e1.
    bind_ok (reference names fields) (last fields) m e1 (λ id is_shape e2.
    bind_ok (location_of names fields id) (λ location. member_at names p fields id location) m e2 (λ location is_location is.
    member_made names p fields id location m there is_shape is_location is)))

-- members have the names in the file
member_names : (names : Names) (pairs : Fields) (members : List Member) → members_of names pairs ≡ Ok members → map (λ m. m.name) members ≡ keys pairs
member_names names [] members e = ap (map (λ m. m.name)) (sym (same_ok [] members e))
member_names names (p ∷ ps) members e =
    bind_ok (inside p.key (member_of names p)) (λ m. members_of names ps >>= (λ others. Ok (m ∷ others))) members e (λ m first then_rest.
    bind_ok (members_of names ps) (λ others. Ok (m ∷ others)) members then_rest (λ others rest all.
    let r : IsReadMember names p m = member_read names p m (inside_ok p.key (member_of names p) m first) in
    ap (map (λ x. x.name)) (sym (same_ok (m ∷ others) members all)) ∙ ap (λ n. n ∷ map (λ x. x.name) others) r.name ∙ ap (λ ns. p.key ∷ ns) (member_names names ps others rest)))

-- keys that are distinct are names that are
pub own_names : (names : Names) (pairs : Fields) (members : List Member) → IsDistinct (keys pairs) → members_of names pairs ≡ Ok members → HasOwnNames members
own_names names pairs members distinct read = subst IsDistinct (sym (member_names names pairs members read)) distinct

standing_ok : (names : Names) (id : ShapeId) (l o : Option Location) → standing names id l ≡ Ok o → IfSome o (λ x. can_stand names id x ≡ true)
standing_ok names id None o e = absurd (cc)
standing_ok names id (Some l) o e =
    let holds = demand_ok (can_stand names id l) (WrongKind (At (codes "location"))) (Ok (Some l)) o e in
    subst (λ x. IfSome x (λ y. can_stand names id y ≡ true)) (same_ok (Some l) o holds.1) holds.0

location_in_ok : (names : Names) (id : ShapeId) (name : Option (List ℕ)) (o : Option Location) → location_in names id name ≡ Ok o → IfSome o (λ x. can_stand names id x ≡ true)
location_in_ok names id None o e = subst (λ x. IfSome x (λ y. can_stand names id y ≡ true)) (same_ok None o e) tt
location_in_ok names id (Some name) o e = standing_ok names id (location_named name) o e

location_ok : (names : Names) (fields : Fields) (id : ShapeId) (o : Option Location) → location_of names fields id ≡ Ok o → IfSome o (λ x. can_stand names id x ≡ true)
unfolding location_of
location_ok names fields id o e = bind_ok (maybe_text (codes "location") fields) (location_in names id) o e (λ name a is. location_in_ok names id name o is)

host_true : (l s : Bool) → not (l && not s) ≡ true → l ≡ true → s ≡ true
host_true true true e is = refl
host_true true false e is = absurd (cc)
host_true false s e is = absurd (cc)

host_ok : (names : Names) (fields : Fields) (id : ShapeId) (h : Bool) → host_label_of names fields id ≡ Ok h → h ≡ true → is_scalar_shape names id ≡ true
unfolding host_label_of
host_ok names fields id h e is_true =
    bind_ok (flag_at (codes "hostLabel") fields) (λ l. demand (not (l && not (is_scalar_shape names id))) (WrongKind (At (codes "hostLabel"))) (Ok l)) h e (λ l a is.
    let holds = demand_ok (not (l && not (is_scalar_shape names id))) (WrongKind (At (codes "hostLabel"))) (Ok l) h is in
    host_true l (is_scalar_shape names id) holds.0 (same_ok l h holds.1 ∙ is_true))

and_false : (b : Bool) → (b && false) ≡ false
and_false true = refl
and_false false = refl

no_scalars : (k : Option Kind) → false ≡ (is_map k && are_scalars None None)
no_scalars k = sym (and_false (is_map k))

abbrev item_in : Names → Outline → Option Kind
item_in names outline = option_and_then (λ item. item.kind) (item_outline names outline)

abbrev inner_in : Names → Outline → Option Kind
inner_in names outline = option_and_then (item_in names) (item_outline names outline)

list_same : (k : Option Kind) (item : Option Outline) → has_item (λ x. is_list k && is_scalar x.kind) item ≡ (is_list k && is_scalar (option_and_then (λ x. x.kind) item))
list_same k None = sym (and_false (is_list k))
list_same k (Some item) = refl

map_same : (k : Option Kind) (item : Option Outline) → has_item (λ x. is_map k && is_string x.kind) item ≡ (is_map k && is_string (option_and_then (λ x. x.kind) item))
map_same k None = sym (and_false (is_map k))
map_same k (Some item) = refl

scalars_same : (names : Names) (o : Outline) → is_scalar_or_list names o ≡ are_scalars o.kind (item_in names o)
scalars_same names o = ap (λ b. is_scalar o.kind || b) (list_same o.kind (item_outline names o))

these_same : (names : Names) (k : Option Kind) (item : Option Outline)
    → has_item (λ x. is_map k && is_scalar_or_list names x) item ≡ (is_map k && are_scalars (option_and_then (λ x. x.kind) item) (option_and_then (item_in names) item))
these_same names k None = no_scalars k
these_same names k (Some item) = ap (λ b. is_map k && b) (scalars_same names item)

-- what a place takes depends on three kinds alone
takes_same : (names : Names) (l : Location) (o : Outline) → can_be_at names l o ≡ takes l o.kind (item_in names o) (inner_in names o)
takes_same names location.Uri o = refl
takes_same names location.Header o = scalars_same names o
takes_same names location.Headers o = map_same o.kind (item_outline names o)
takes_same names location.Querystring o =
    ap (λ b. b || is_map_of_these names o) (scalars_same names o) ∙ ap (λ b. are_scalars o.kind (item_in names o) || b) (these_same names o.kind (item_outline names o))
takes_same names location.StatusCode o = refl

-- the value at the first key that passes is that at its position
first_found : (p : List ℕ → Bool) (es : Names) (n : ℕ) → n < length es → p (get_or (map (λ e. e.0) es) n []) ≡ true
    → ((k : ℕ) → k < n → p (get_or (map (λ e. e.0) es) k []) ≡ false) → lookup p es ≡ option_map (λ e. e.1) (slice_get es n)
first_found p [] n within is others = absurd (omega (arith, within))
first_found p (e ∷ es) zero within is others = ap (λ b. cond b (Some e.1) (lookup p es)) is
first_found p (e ∷ es) (suc n) within is others =
    ap (λ b. cond b (Some e.1) (lookup p es)) (others zero (omega arith))
    ∙ first_found p es n (omega (arith, within)) is (λ k lt. others (suc k) (omega (arith, lt)))

looked_up : (names : Names) (name : List ℕ) (n : ℕ) → number_of names name ≡ Some n → lookup (bytes_eq name) names ≡ option_map (λ e. e.1) (slice_get names n)
looked_up names name n found =
    let at = position-Some (bytes_eq name) (map (λ e. e.0) names) n [] found in
    first_found (bytes_eq name) names n (omega (arith, at.0, length-map names (λ e. e.0))) at.1 at.2

-- a reference that was read is that of a text
pub record IsReference (names : Names) (doc : Doc) (id : ShapeId) : Type 0 where
  pub name : List ℕ
  pub text : text_in (codes "shape") doc ≡ Some name
  pub number : number_of names name ≡ Some id.0

text_read : (key : List ℕ) (doc : Doc) (fields : Fields) (name : List ℕ) → fields_of doc ≡ Ok fields → text_at key fields ≡ Ok name → text_in key doc ≡ Some name
unfolding value_in text_if
text_read key doc fields name there named =
    text_at_ok key fields name named (λ at found text.
    ap (λ v. option_and_then text_if (value_in_view key v)) (fields_ok doc fields there) ∙ ap (λ o. option_and_then text_if o) found ∙ ap text_in_view text)

pub reference_read : (names : Names) (doc : Doc) (fields : Fields) (id : ShapeId) → fields_of doc ≡ Ok fields → reference names fields ≡ Ok id → IsReference names doc id
unfolding reference
reference_read names doc fields id there e =
    let last : List ℕ → Result ShapeId ModelFault = λ name. or_fault (UnknownShape (At (codes "shape"))) (number_of names name) >>= (λ number. Ok (record { 0 = number })) in
    bind_ok (text_at (codes "shape") fields) last id e (λ name named e1.
    bind_ok (or_fault (UnknownShape (At (codes "shape"))) (number_of names name)) (λ number. Ok (record { 0 = number })) id e1 (λ number found is.
    record {
      name = name;
      text = text_read (codes "shape") doc fields name there named;
      number = or_fault_ok (UnknownShape (At (codes "shape"))) (number_of names name) number found ∙ ap (λ i. Some i.0) (same_ok (record { 0 = number }) id is);
    }))

pub reference_in_read : (names : Names) (doc : Doc) (id : ShapeId) → reference_in names doc ≡ Ok id → IsReference names doc id
unfolding reference_in
reference_in_read names doc id e = bind_ok (fields_of doc) (reference names) id e (λ fields there is. reference_read names doc fields id there is)

part_read : (names : Names) (key : List ℕ) (doc : Doc) (o : Option Doc) (id : ShapeId) → value_in key doc ≡ o → part_in reference_in names key o ≡ Ok id
    → (name : List ℕ) × (named_at key doc ≡ Some name) × (number_of names name ≡ Some id.0)
part_read names key doc None id is e = absurd (cc)
part_read names key doc (Some part) id is e =
    let read : IsReference names part id = reference_in_read names part id (inside_ok key (reference_in names part) id e) in
    (read.name, ap (λ x. option_and_then (text_in (codes "shape")) x) is ∙ read.text, read.number)

pub value_read : (key : List ℕ) (doc : Doc) (fields : Fields) → fields_of doc ≡ Ok fields → value_in key doc ≡ value_at key fields
unfolding value_in
value_read key doc fields there = ap (value_in_view key) (fields_ok doc fields there)

some_read_at : (read : Result ShapeId ModelFault) (o : Option ShapeId) → some_read read ≡ Ok o → (id : ShapeId) × (read ≡ Ok id) × (o ≡ Some id)
some_read_at (Ok id) o e = (id, refl, sym (same_ok (Some id) o e))
some_read_at (Err fault) o e = absurd (cc)

part_found : (names : Names) (key : List ℕ) (doc : Doc) (fields : Fields) (o : Option ShapeId) → fields_of doc ≡ Ok fields → some_read (part_at names key fields) ≡ Ok o
    → option_and_then (λ name. lookup (bytes_eq name) names) (named_at key doc) ≡ option_and_then (outline_at names) o
unfolding part_at
part_found names key doc fields o there e =
    let some = some_read_at (part_at names key fields) o e in
    let found = part_read names key doc (value_at key fields) some.0 (value_read key doc fields there) some.1 in
    ap (λ x. option_and_then (λ name. lookup (bytes_eq name) names) x) found.1
    ∙ looked_up names found.0 some.0.0 found.2
    ∙ ap (λ x. option_and_then (outline_at names) x) (sym some.2)

no_item : (names : Names) (o : Option ShapeId) → ◌≡◌ {A = Result (Option ShapeId) ModelFault} (Ok None) (Ok o)
    → ◌≡◌ {A = Option Outline} None (option_and_then (outline_at names) o)
no_item names o e = ap (λ x. option_and_then (outline_at names) x) (same_ok None o e)

-- what is known of a shape's items by the text is what is known by the number
item_found : (names : Names) (k : Kind) (doc : Doc) (fields : Fields) (o : Option ShapeId) → fields_of doc ≡ Ok fields → item_if k names fields ≡ Ok o
    → option_and_then (λ name. lookup (bytes_eq name) names) (item_of (Some k) doc) ≡ option_and_then (outline_at names) o
unfolding item_if
item_found names kind.List doc fields o there e = part_found names (codes "member") doc fields o there e
item_found names kind.Map doc fields o there e = part_found names (codes "value") doc fields o there e
item_found names kind.Structure doc fields o there e = no_item names o e
item_found names kind.Str doc fields o there e = no_item names o e
item_found names kind.Integer doc fields o there e = no_item names o e
item_found names kind.Long doc fields o there e = no_item names o e
item_found names kind.Float doc fields o there e = no_item names o e
item_found names kind.Double doc fields o there e = no_item names o e
item_found names kind.Boolean doc fields o there e = no_item names o e
item_found names kind.Blob doc fields o there e = no_item names o e
item_found names kind.Timestamp doc fields o there e = no_item names o e

-- what was read of a shape
pub record IsReadShape (names : Names) (p : Pair Doc) (s : Shape) : Type 0 where
  pub fields : Fields
  pub there : fields_of p.value ≡ Ok fields
  pub structure : Structure
  pub structure_read : structure_if s.kind names fields ≡ Ok structure
  pub members : s.members ≡ structure.members
  pub wires : s.has_own_wires ≡ have_own_wires structure.members
  pub required : s.required ≡ structure.required
  pub payload : s.payload ≡ structure.payload
  pub key : key_if s.kind names fields ≡ Ok s.key
  pub item : item_if s.kind names fields ≡ Ok s.item
  pub name : s.name ≡ p.key

pub shape_read : (names : Names) (p : Pair Doc) (shape : Shape) → shape_of names p ≡ Ok shape → IsReadShape names p shape
unfolding shape_of
shape_read names p shape e =
    let fifth : Fields → Kind → Structure → Option ShapeId → Option ShapeId → Result Shape ModelFault = λ f k s key item. time_of f >>= (λ time. Ok (shape_as p.key f k s key item time)) in
    let fourth : Fields → Kind → Structure → Option ShapeId → Result Shape ModelFault = λ f k s key. item_if k names f >>= fifth f k s key in
    let third : Fields → Kind → Structure → Result Shape ModelFault = λ f k s. key_if k names f >>= fourth f k s in
    let second : Fields → Kind → Result Shape ModelFault = λ f k. structure_if k names f >>= third f k in
    let first : Fields → Result Shape ModelFault = λ f. kind_of_shape f >>= second f in
    bind_ok (fields_of p.value) first shape e (λ f there e1.
    bind_ok (kind_of_shape f) (second f) shape e1 (λ k a e2.
    bind_ok (structure_if k names f) (third f k) shape e2 (λ s is_structure e3.
    bind_ok (key_if k names f) (fourth f k s) shape e3 (λ key is_key e4.
    bind_ok (item_if k names f) (fifth f k s key) shape e4 (λ item is_item e5.
    bind_ok (time_of f) (λ time. Ok (shape_as p.key f k s key item time)) shape e5 (λ time b is.
    let made : shape_as p.key f k s key item time ≡ shape = same_ok (shape_as p.key f k s key item time) shape is in
    subst (IsReadShape names p) made (record {
      fields = f;
      there = there;
      structure = s;
      structure_read = is_structure;
      members = refl;
      wires = refl;
      required = refl;
      payload = refl;
      key = is_key;
      item = is_item;
      name = refl;
    })))))))

abbrev structure_as : List Member → List (List ℕ) → Option (List ℕ) → Bool → Bool → Bool → Bool → Structure
structure_as members required payload is_union document exception events =
    record { members = members; required = required; payload = payload; is_union = is_union; document = document; exception = exception; events = events }

-- what was read of a structure
pub record IsReadStructure (names : Names) (fields : Fields) (s : Structure) : Type 0 where
  pub pairs : Fields
  pub at : object_at (codes "members") fields ≡ Ok pairs
  pub members : members_of names pairs ≡ Ok s.members
  pub required : required_of s.members fields ≡ Ok s.required
  pub payload : payload_of s.members fields ≡ Ok s.payload

pub structure_read : (names : Names) (fields : Fields) (s : Structure) → structure_of names fields ≡ Ok s → IsReadStructure names fields s
unfolding structure_of
structure_read names fields s e =
    let Made : Type 0 = Result Structure ModelFault in
    let seventh : List Member → List (List ℕ) → Option (List ℕ) → Bool → Bool → Bool → Made = λ m r p u d x. flag_at (codes "eventstream") fields >>= (λ v. Ok (structure_as m r p u d x v)) in
    let sixth : List Member → List (List ℕ) → Option (List ℕ) → Bool → Bool → Made = λ m r p u d. flag_at (codes "exception") fields >>= seventh m r p u d in
    let fifth : List Member → List (List ℕ) → Option (List ℕ) → Bool → Made = λ m r p u. flag_at (codes "document") fields >>= sixth m r p u in
    let fourth : List Member → List (List ℕ) → Option (List ℕ) → Made = λ m r p. flag_at (codes "union") fields >>= fifth m r p in
    let third : List Member → List (List ℕ) → Made = λ m r. payload_of m fields >>= fourth m r in
    let second : List Member → Made = λ m. required_of m fields >>= third m in
    bind_ok (object_at (codes "members") fields) (λ pairs. inside (codes "members") (members_of names pairs) >>= second) s e (λ pairs at e1.
    bind_ok (inside (codes "members") (members_of names pairs)) second s e1 (λ m is_members e2.
    bind_ok (required_of m fields) (third m) s e2 (λ r is_required e3.
    bind_ok (payload_of m fields) (fourth m r) s e3 (λ p is_payload e4.
    bind_ok (flag_at (codes "union") fields) (fifth m r p) s e4 (λ u a e5.
    bind_ok (flag_at (codes "document") fields) (sixth m r p u) s e5 (λ d b e6.
    bind_ok (flag_at (codes "exception") fields) (seventh m r p u d) s e6 (λ x c e7.
    bind_ok (flag_at (codes "eventstream") fields) (λ v. Ok (structure_as m r p u d x v)) s e7 (λ v w is.
    let made : structure_as m r p u d x v ≡ s = same_ok (structure_as m r p u d x v) s is in
    subst (IsReadStructure names fields) made (record {
      pairs = pairs;
      at = at;
      members = inside_ok (codes "members") (members_of names pairs) m is_members;
      required = is_required;
      payload = is_payload;
    })))))))))

pub or_true : {P : Type 0} (a b : Bool) → (a || b) ≡ true → (a ≡ true → P) → (b ≡ true → P) → P
or_true true b e left right = left refl
or_true false b e left right = right e

pub true_last : (b : Bool) → (b || true) ≡ true
true_last true = refl
true_last false = refl

-- a name among those of members is a member's
name_of_member : (name : List ℕ) (members : List Member) → list_any (bytes_eq name) (names_in members) ≡ true → names_member members name ≡ true
name_of_member name [] e = absurd (cc)
name_of_member name (m ∷ ms) e =
    or_true (bytes_eq name m.name) (list_any (bytes_eq name) (names_in ms)) e
    (λ is. ap (λ b. b || names_member ms name) ((bytes_eq-Decides m.name name).1 (sym ((bytes_eq-Decides name m.name).0 is))))
    (λ rest. ap (λ b. bytes_eq m.name name || b) (name_of_member name ms rest) ∙ true_last (bytes_eq m.name name))

name_among_ok : (members : List Member) (doc : Doc) (name : List ℕ) → name_among (names_in members) doc ≡ Ok name → names_member members name ≡ true
unfolding name_among
name_among_ok members doc name e =
    bind_ok (text_of doc) (λ n. demand (list_any (bytes_eq n) (names_in members)) (WrongKind Whole) (Ok n)) name e (λ n a is.
    let holds = demand_ok (list_any (bytes_eq n) (names_in members)) (WrongKind Whole) (Ok n) name is in
    ap (names_member members) (sym (same_ok n name holds.1)) ∙ name_of_member n members holds.0)

listed_ok : (members : List Member) (doc : Doc) (names : List (List ℕ)) → member_list members doc ≡ Ok names → AllByRecursion (λ name. names_member members name ≡ true) names
unfolding member_list
listed_ok members doc names e =
    bind_ok (items_of doc) (λ items. each_from (name_among (names_in members)) 0 items) names e (λ items a is.
    from_all (name_among (names_in members)) (λ name. names_member members name ≡ true) (name_among_ok members) 0 items names is)

required_in_ok : (members : List Member) (doc : Option Doc) (names : List (List ℕ)) → required_in members doc ≡ Ok names → AllByRecursion (λ name. names_member members name ≡ true) names
required_in_ok members None names e = subst (AllByRecursion (λ name. names_member members name ≡ true)) (same_ok [] names e) tt
required_in_ok members (Some doc) names e = listed_ok members doc names (inside_ok (codes "required") (member_list members doc) names e)

required_ok : (members : List Member) (fields : Fields) (names : List (List ℕ)) → required_of members fields ≡ Ok names → All (λ name. names_member members name ≡ true) names
unfolding required_of
required_ok members fields names e = All-from_recursion (λ name. names_member members name ≡ true) names (required_in_ok members (value_at (codes "required") fields) names e)

payload_in_ok : (members : List Member) (name payload : Option (List ℕ)) → payload_in members name ≡ Ok payload → IfSome payload (λ n. names_member members n ≡ true)
payload_in_ok members None payload e = subst (λ o. IfSome o (λ n. names_member members n ≡ true)) (same_ok None payload e) tt
payload_in_ok members (Some name) payload e =
    let holds = demand_ok (names_member members name) (WrongKind (At (codes "payload"))) (Ok (Some name)) payload e in
    subst (λ o. IfSome o (λ n. names_member members n ≡ true)) (same_ok (Some name) payload holds.1) holds.0

payload_ok : (members : List Member) (fields : Fields) (payload : Option (List ℕ)) → payload_of members fields ≡ Ok payload → IfSome payload (λ n. names_member members n ≡ true)
unfolding payload_of
payload_ok members fields payload e = bind_ok (maybe_text (codes "payload") fields) (payload_in members) payload e (λ name a is. payload_in_ok members name payload is)

some_there : (P : ShapeId → Type 0) (read : Result ShapeId ModelFault) (o : Option ShapeId) → some_read read ≡ Ok o → IfSome o P → IsSomeAnd o P
some_there P (Ok id) None e holds = absurd (cc)
some_there P (Ok id) (Some other) e holds = holds
some_there P (Err fault) o e holds = absurd (cc)

none_there : (key item : Option ShapeId) → ◌≡◌ {A = Result (Option ShapeId) ModelFault} (Ok None) (Ok key) → ◌≡◌ {A = Result (Option ShapeId) ModelFault} (Ok None) (Ok item)
    → (key ≡ None) × (item ≡ None)
none_there key item no_key no_item = (sym (same_ok None key no_key), sym (same_ok None item no_item))

-- lists and maps have their items and keys
items_there : (names : Names) (shapes : List Shape) (k : Kind) (fields : Fields) (key item : Option ShapeId) → key_if k names fields ≡ Ok key → item_if k names fields ≡ Ok item
    → IfSome key (IsOfKind kind.Str shapes) → IfSome item (IsWithin shapes) → HasItems shapes k key item
unfolding key_if item_if
items_there names shapes kind.List fields key item is_key is_item strings within = (sym (same_ok None key is_key), some_there (IsWithin shapes) (part_at names (codes "member") fields) item is_item within)
items_there names shapes kind.Map fields key item is_key is_item strings within =
    (some_there (IsOfKind kind.Str shapes) (key_at names fields) key is_key strings, some_there (IsWithin shapes) (part_at names (codes "value") fields) item is_item within)
items_there names shapes kind.Structure fields key item is_key is_item strings within = none_there key item is_key is_item
items_there names shapes kind.Str fields key item is_key is_item strings within = none_there key item is_key is_item
items_there names shapes kind.Integer fields key item is_key is_item strings within = none_there key item is_key is_item
items_there names shapes kind.Long fields key item is_key is_item strings within = none_there key item is_key is_item
items_there names shapes kind.Float fields key item is_key is_item strings within = none_there key item is_key is_item
items_there names shapes kind.Double fields key item is_key is_item strings within = none_there key item is_key is_item
items_there names shapes kind.Boolean fields key item is_key is_item strings within = none_there key item is_key is_item
items_there names shapes kind.Blob fields key item is_key is_item strings within = none_there key item is_key is_item
items_there names shapes kind.Timestamp fields key item is_key is_item strings within = none_there key item is_key is_item

pub some_at : {A : Type 0} (xs : List A) (i : ℕ) → i < length xs → (x : A) × (slice_get xs i ≡ Some x)
some_at [] i within = absurd (omega (arith, within))
some_at (x ∷ xs) zero within = (x, refl)
some_at (x ∷ xs) (suc i) within = some_at xs i (omega (arith, within))

kind_outlined : (doc : Doc) → (outline_of doc).kind ≡ numbering.kind_of doc
unfolding outline_of
kind_outlined doc = refl

item_outlined : (names : Names) (doc : Doc) → item_outline names (outline_of doc) ≡ option_and_then (λ name. lookup (bytes_eq name) names) (item_of (numbering.kind_of doc) doc)
unfolding outline_of
item_outlined names doc = refl

module _ (pairs : Fields) (shapes : List Shape) (read : shapes_of (names_of pairs) pairs ≡ Ok shapes) (many : length shapes ≡ length pairs) where
  -- a shape with its number, as it stands in the file and as it was read
  pub record IsKnown (id : ShapeId) : Type 0 where
    pub pair : Pair Doc
    pub shape : Shape
    pub in_file : slice_get pairs id.0 ≡ Some pair
    pub in_table : slice_get shapes id.0 ≡ Some shape
    pub is_read : shape_of (names_of pairs) pair ≡ Ok shape

  pub known : (id : ShapeId) → IsWithin shapes id → IsKnown id
  known id within =
      let there = some_at pairs id.0 (omega (arith, within, many)) in
      let found = each_place (shape_of (names_of pairs)) pairs shapes id.0 there.0 read there.1 in
      record { pair = there.0; shape = found.0; in_file = there.1; in_table = found.1; is_read = found.2 }

  outline_known : (id : ShapeId) (k : IsKnown id) → outline_at (names_of pairs) id ≡ Some (outline_of k.pair.value)
  outline_known id k =
      ap (λ x. option_map (λ e. e.1) x) (slice_get-map (λ p. (p.key, outline_of p.value)) pairs id.0 ∙ ap (option_map (λ p. (p.key, outline_of p.value))) k.in_file)

  kind_read_at : (id : ShapeId) (k : IsKnown id) → numbering.kind_of k.pair.value ≡ Some k.shape.kind
  kind_read_at id k = (shape_ok (names_of pairs) k.pair k.shape k.is_read).0

  kind_known : (id : ShapeId) (k : IsKnown id) → (outline_of k.pair.value).kind ≡ kind_of shapes id
  kind_known id k = kind_outlined k.pair.value ∙ kind_read_at id k ∙ sym (ap (option_map (λ s. s.kind)) k.in_table)

  pub item_there : (id : ShapeId) (k : IsKnown id) → item_at shapes id ≡ k.shape.item
  item_there id k = ap (λ o. option_and_then (λ s. s.item) o) k.in_table

  item_within : (id : ShapeId) (k : IsKnown id) → IfSome (item_at shapes id) (IsWithin shapes)
  item_within id k =
      let same : length (names_of pairs) ≡ length shapes = length-map pairs _ ∙ sym many in
      subst (λ o. IfSome o (IsWithin shapes)) (sym (item_there id k))
      (IfSome_then k.shape.item ((shape_ok (names_of pairs) k.pair k.shape k.is_read).1).1 (λ i lt. omega (arith, lt, same)))

  item_known : (id : ShapeId) (k : IsKnown id) → item_outline (names_of pairs) (outline_of k.pair.value) ≡ option_and_then (outline_at (names_of pairs)) (item_at shapes id)
  item_known id k =
      let r : IsReadShape (names_of pairs) k.pair k.shape = shape_read (names_of pairs) k.pair k.shape k.is_read in
      item_outlined (names_of pairs) k.pair.value
      ∙ ap (λ x. option_and_then (λ name. lookup (bytes_eq name) (names_of pairs)) (item_of x k.pair.value)) (kind_read_at id k)
      ∙ item_found (names_of pairs) k.shape.kind k.pair.value r.fields k.shape.item r.there r.item
      ∙ ap (λ o. option_and_then (outline_at (names_of pairs)) o) (sym (item_there id k))

  pub kind_same : (id : ShapeId) → IsWithin shapes id → kind_at (names_of pairs) id ≡ kind_of shapes id
  kind_same id within = let k = known id within in ap (λ o. option_and_then (λ t. t.kind) o) (outline_known id k) ∙ kind_known id k

  kinds_same : (o : Option ShapeId) → IfSome o (IsWithin shapes) → option_and_then (λ t. t.kind) (option_and_then (outline_at (names_of pairs)) o) ≡ option_and_then (kind_of shapes) o
  kinds_same None within = refl
  kinds_same (Some id) within = kind_same id within

  item_kind_known : (id : ShapeId) (k : IsKnown id) → item_in (names_of pairs) (outline_of k.pair.value) ≡ item_kind shapes id
  item_kind_known id k = ap (λ o. option_and_then (λ t. t.kind) o) (item_known id k) ∙ kinds_same (item_at shapes id) (item_within id k)

  inners_same : (o : Option ShapeId) → IfSome o (IsWithin shapes) → option_and_then (item_in (names_of pairs)) (option_and_then (outline_at (names_of pairs)) o) ≡ option_and_then (item_kind shapes) o
  inners_same None within = refl
  inners_same (Some id) within = let k = known id within in ap (λ o. option_and_then (item_in (names_of pairs)) o) (outline_known id k) ∙ item_kind_known id k

  inner_known : (id : ShapeId) (k : IsKnown id) → inner_in (names_of pairs) (outline_of k.pair.value) ≡ inner_kind shapes id
  inner_known id k = ap (λ o. option_and_then (item_in (names_of pairs)) o) (item_known id k) ∙ inners_same (item_at shapes id) (item_within id k)

  -- a shape that can stand at a place is one that the place takes
  place_ok : (id : ShapeId) (l : Location) → IsWithin shapes id → can_stand (names_of pairs) id l ≡ true → takes l (kind_of shapes id) (item_kind shapes id) (inner_kind shapes id) ≡ true
  unfolding can_stand
  place_ok id l within can =
      let k = known id within in
      let o : Outline = outline_of k.pair.value in
      ap (λ x. takes l x (item_kind shapes id) (inner_kind shapes id)) (sym (kind_known id k))
      ∙ ap (λ x. takes l o.kind x (inner_kind shapes id)) (sym (item_kind_known id k))
      ∙ ap (λ x. takes l o.kind (item_in (names_of pairs) o) x) (sym (inner_known id k))
      ∙ sym (takes_same (names_of pairs) l o)
      ∙ ap (λ x. has_item (can_be_at (names_of pairs) l) x) (sym (outline_known id k))
      ∙ can

  scalar_ok : (id : ShapeId) → IsWithin shapes id → is_scalar_shape (names_of pairs) id ≡ true → is_scalar (kind_of shapes id) ≡ true
  scalar_ok id within scalar =
      let k = known id within in
      ap is_scalar (sym (kind_known id k)) ∙ ap (λ x. has_item (λ t. is_scalar t.kind) x) (sym (outline_known id k)) ∙ scalar

  pub member_kept : (p : Pair Doc) (m : Member) → member_of (names_of pairs) p ≡ Ok m → IsMember shapes m
  member_kept p m e =
      let r : IsReadMember (names_of pairs) p m = member_read (names_of pairs) p m e in
      let same : length (names_of pairs) ≡ length shapes = length-map pairs _ ∙ sym many in
      let below : m.shape.0 < length (names_of pairs) = reference_within (names_of pairs) r.fields m.shape r.shape in
      let within : IsWithin shapes m.shape = omega (arith, below, same) in
      record {
        shape = within;
        place = IfSome_then m.location (location_ok (names_of pairs) r.fields m.shape m.location r.location) (λ l can. place_ok m.shape l within can);
        host = λ is_label. scalar_ok m.shape within (host_ok (names_of pairs) r.fields m.shape m.host_label r.host is_label);
      }

  -- what a structure keeps
  record IsStructure (s : Structure) : Type 0 where
    pub members : All (IsMember shapes) s.members
    pub required : All (λ name. names_member s.members name ≡ true) s.required
    pub payload : IfSome s.payload (λ name. names_member s.members name ≡ true)

  structure_kept : (fields : Fields) (s : Structure) → structure_of (names_of pairs) fields ≡ Ok s → IsStructure s
  structure_kept fields s e =
      let r : IsReadStructure (names_of pairs) fields s = structure_read (names_of pairs) fields s e in
      record {
        members = All-from_recursion (IsMember shapes) s.members (each_all (member_of (names_of pairs)) (IsMember shapes) member_kept r.pairs s.members r.members);
        required = required_ok s.members fields s.required r.required;
        payload = payload_ok s.members fields s.payload r.payload;
      }

  no_structure_kept : (s : Structure) → ◌≡◌ {A = Result Structure ModelFault} (Ok no_structure) (Ok s) → IsStructure s
  no_structure_kept s e =
      subst IsStructure (same_ok no_structure s e) (record { members = All-nil (IsMember shapes); required = All-nil (λ name. names_member [] name ≡ true); payload = tt })

  structure_if_kept : (k : Kind) (fields : Fields) (s : Structure) → structure_if k (names_of pairs) fields ≡ Ok s → IsStructure s
  unfolding structure_if
  structure_if_kept kind.Structure fields s e = structure_kept fields s e
  structure_if_kept kind.List fields s e = no_structure_kept s e
  structure_if_kept kind.Map fields s e = no_structure_kept s e
  structure_if_kept kind.Str fields s e = no_structure_kept s e
  structure_if_kept kind.Integer fields s e = no_structure_kept s e
  structure_if_kept kind.Long fields s e = no_structure_kept s e
  structure_if_kept kind.Float fields s e = no_structure_kept s e
  structure_if_kept kind.Double fields s e = no_structure_kept s e
  structure_if_kept kind.Boolean fields s e = no_structure_kept s e
  structure_if_kept kind.Blob fields s e = no_structure_kept s e
  structure_if_kept kind.Timestamp fields s e = no_structure_kept s e

  shape_kept : (p : Pair Doc) (s : Shape) → shape_of (names_of pairs) p ≡ Ok s → IsShape shapes s
  shape_kept p s e =
      let r : IsReadShape (names_of pairs) p s = shape_read (names_of pairs) p s e in
      let keeps : IsStructure r.structure = structure_if_kept s.kind r.fields r.structure r.structure_read in
      let holds = (shape_ok (names_of pairs) p s e).1 in
      let same : length (names_of pairs) ≡ length shapes = length-map pairs _ ∙ sym many in
      record {
        members = subst (All (IsMember shapes)) (sym r.members) keeps.members;
        items = items_there (names_of pairs) shapes s.kind r.fields s.key s.item r.key r.item
            (IfSome_then s.key holds.2 (λ id is_key. kinds_agree pairs shapes id kind.Str read is_key))
            (IfSome_then s.item holds.1 (λ id lt. omega (arith, lt, same)));
        required = subst (λ ms. All (λ name. names_member ms name ≡ true) s.required) (sym r.members)
            (subst (All (λ name. names_member r.structure.members name ≡ true)) (sym r.required) keeps.required);
        payload = subst (λ ms. IfSome s.payload (λ name. names_member ms name ≡ true)) (sym r.members)
            (subst (λ o. IfSome o (λ name. names_member r.structure.members name ≡ true)) (sym r.payload) keeps.payload);
      }

  -- every shape that was read is kept
  pub shapes_kept : All (IsShape shapes) shapes
  shapes_kept = All-from_recursion (IsShape shapes) shapes (each_all (shape_of (names_of pairs)) (IsShape shapes) shape_kept pairs shapes read)
