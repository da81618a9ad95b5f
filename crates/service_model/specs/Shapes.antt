-- The shapes of a model.
use Rattle.std.specs.Prelude.{ℕ, Bool, true, false, not, ◌&&◌, ℤ, List, [], ◌∷◌, ◌++◌, map, Option, None, Some, Result, Ok, Err, bytes_eq, codes, option_and_then}
use Rattle.std.specs.List.{list_any}
use Rattle.json_doc.specs.declared.doc.Doc.{Doc}
use Rattle.json_doc.specs.declared.doc.Doc.TheOpen.{Doc-F}
use Rattle.json_doc.specs.declared.doc.Doc.TheViews.{out-Doc}
use Rattle.texts.specs.declared.pairs.Pair.{Pair}
use Rattle.texts.specs.Keys.{value_at}
use Rattle.json_doc.specs.DecimalValue.{whole}
use Rattle.model_files.specs.declared.fault.ModelFault.{ModelFault}
use Rattle.model_files.specs.declared.fault.ModelFault.TheVariants.{Missing, WrongKind}
use Rattle.model_files.specs.declared.fault.Place.TheVariants.{Whole, At}
use Rattle.service_model.specs.declared.shape.Kind.{Kind}
use Rattle.service_model.specs.declared.shape.Kind.TheVariants as kind
use Rattle.service_model.specs.declared.shape.Member.{Member}
use Rattle.service_model.specs.declared.shape.Shape.{Shape}
use Rattle.service_model.specs.declared.shape.ShapeId.{ShapeId}
use Rattle.service_model.specs.declared.shapes.Structure.{Structure}
use Rattle.service_model.specs.Choices.{kind_named}
use Rattle.model_files.specs.Faults.{below, inside, or_fault, demand, each, each_from}
use Rattle.texts.specs.Calls.{◌>>=◌}
use Rattle.service_model.specs.Members.{members_of, time_of}
use Rattle.service_model.specs.Numbering.{Names, reference_in, string_in}
use Rattle.model_files.specs.Reading.{Fields, fields_of, text_of, items_of, object_at, text_at, maybe_text, flag_at}

unfoldable pub kind_of_shape : Fields → Result Kind ModelFault
kind_of_shape fields = do
  name ← text_at (codes "type") fields
  or_fault (WrongKind (At (codes "type"))) (kind_named name)

-- the name of a member
abbrev pub names_member : List Member → List ℕ → Bool
names_member members name = list_any (λ m. bytes_eq m.name name) members

-- a text that is one of the names
unfoldable pub name_among : List (List ℕ) → Doc → Result (List ℕ) ModelFault
name_among names doc = do
  name ← text_of doc
  demand (list_any (bytes_eq name) names) (WrongKind Whole) (Ok name)

abbrev pub names_in : List Member → List (List ℕ)
names_in members = map (λ m. m.name) members

-- a list of names of members
unfoldable pub member_list : List Member → Doc → Result (List (List ℕ)) ModelFault
member_list members doc = do
  items ← items_of doc
  each_from (name_among (names_in members)) 0 items

abbrev pub required_in : List Member → Option Doc → Result (List (List ℕ)) ModelFault
required_in members None = Ok []
required_in members (Some doc) = inside (codes "required") (member_list members doc)

-- the names of the members that a value must have; each names a member
unfoldable pub required_of : List Member → Fields → Result (List (List ℕ)) ModelFault
required_of members fields = required_in members (value_at (codes "required") fields)

abbrev pub payload_in : List Member → Option (List ℕ) → Result (Option (List ℕ)) ModelFault
payload_in members None = Ok None
payload_in members (Some name) = demand (names_member members name) (WrongKind (At (codes "payload"))) (Ok (Some name))

-- the name of the member that is the whole body
unfoldable pub payload_of : List Member → Fields → Result (Option (List ℕ)) ModelFault
payload_of members fields = do
  name ← maybe_text (codes "payload") fields
  payload_in members name

unfoldable pub structure_of : Names → Fields → Result Structure ModelFault
structure_of names fields = do
  pairs ← object_at (codes "members") fields
  members ← inside (codes "members") (members_of names pairs)
  required ← required_of members fields
  payload ← payload_of members fields
  is_union ← flag_at (codes "union") fields
  document ← flag_at (codes "document") fields
  exception ← flag_at (codes "exception") fields
  events ← flag_at (codes "eventstream") fields
  Ok (record { members = members; required = required; payload = payload; is_union = is_union; document = document; exception = exception; events = events })

abbrev pub no_structure : Structure
no_structure = record { members = []; required = []; payload = None; is_union = false; document = false; exception = false; events = false }

-- what only structures have
unfoldable pub structure_if : Kind → Names → Fields → Result Structure ModelFault
structure_if kind.Structure names fields = structure_of names fields
structure_if _ names fields = Ok no_structure

abbrev pub part_in : (Names → Doc → Result ShapeId ModelFault) → Names → List ℕ → Option Doc → Result ShapeId ModelFault
part_in read names key None = Err (Missing (below key (At (codes "shape"))))
part_in read names key (Some doc) = inside key (read names doc)

-- the shape that is named at a key
unfoldable pub part_at : Names → List ℕ → Fields → Result ShapeId ModelFault
part_at names key fields = part_in reference_in names key (value_at key fields)

-- keys of maps are strings
unfoldable pub key_at : Names → Fields → Result ShapeId ModelFault
key_at names fields = part_in string_in names (codes "key") (value_at (codes "key") fields)

abbrev pub some_read : Result ShapeId ModelFault → Result (Option ShapeId) ModelFault
some_read read = do
  id ← read
  Ok (Some id)

unfoldable pub key_if : Kind → Names → Fields → Result (Option ShapeId) ModelFault
key_if kind.Map names fields = some_read (key_at names fields)
key_if _ names fields = Ok None

-- what a list holds, or what stands at the keys of a map
unfoldable pub item_if : Kind → Names → Fields → Result (Option ShapeId) ModelFault
item_if kind.List names fields = some_read (part_at names (codes "member") fields)
item_if kind.Map names fields = some_read (part_at names (codes "value") fields)
item_if _ names fields = Ok None

abbrev pub least_in : Doc-F Doc → Option ℤ
least_in (Doc-F.Number n) = whole n
least_in _ = None

-- the least length or value: a whole number in 64 bits, else it is ignored
unfoldable pub least_of : Fields → Option ℤ
least_of fields = option_and_then (λ doc. least_in (out-Doc doc)) (value_at (codes "min") fields)

-- none of these texts is an earlier one, and none stands twice
abbrev pub are_new : List (List ℕ) → List (List ℕ) → Bool
are_new earlier [] = true
are_new earlier (text ∷ texts) = not (list_any (bytes_eq text) earlier) && are_new (earlier ++ text ∷ []) texts

-- no two members are sent under one name
abbrev pub have_own_wires : List Member → Bool
have_own_wires members = are_new [] (map (λ m. m.wire) members)

unfoldable pub shape_of : Names → Pair Doc → Result Shape ModelFault
shape_of names p = do
  fields ← fields_of p.value
  kind ← kind_of_shape fields
  structure ← structure_if kind names fields
  key ← key_if kind names fields
  item ← item_if kind names fields
  time ← time_of fields
  Ok (record {
    name = p.key;
    kind = kind;
    members = structure.members;
    has_own_wires = have_own_wires structure.members;
    required = structure.required;
    payload = structure.payload;
    min = least_of fields;
    item = item;
    key = key;
    is_union = structure.is_union;
    document = structure.document;
    exception = structure.exception;
    events = structure.events;
    time = time;
  })

abbrev pub shapes_of : Names → Fields → Result (List Shape) ModelFault
shapes_of names ps = each (shape_of names) ps
