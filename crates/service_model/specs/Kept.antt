-- What a model that was read keeps, so that nobody has to test it again.
use Rattle.std.specs.Prelude.{◌≡◌, ℕ, ◌<◌, ◌&&◌, ◌||◌, ◌↔◌, Bool, true, false, IsTrue, List, length, map, slice_get, Option, None, Some, IfSome, IsSomeAnd, is_some, option_and_then, bytes_eq}
use Rattle.std.specs.List.{All, list_any}
use Rattle.texts.specs.Keys.{IsDistinct}
use Rattle.service_model.specs.declared.operation.Operation.{Operation}
use Rattle.service_model.specs.declared.shape.Kind.{Kind}
use Rattle.service_model.specs.declared.shape.Kind.TheVariants as kind
use Rattle.service_model.specs.declared.shape.Location.{Location}
use Rattle.service_model.specs.declared.shape.Location.TheVariants as location
use Rattle.service_model.specs.declared.shape.Member.{Member}
use Rattle.service_model.specs.declared.shape.Shape.{Shape}
use Rattle.service_model.specs.declared.shape.ShapeId.{ShapeId}
use Rattle.service_model.specs.Admission.{members_at}
use Rattle.service_model.specs.Arguments.{kind_of}
use Rattle.service_model.specs.Labels.{labels}
use Rattle.service_model.specs.Locations.{is_scalar, is_list, is_map}
use Rattle.service_model.specs.Numbering.{is_string}
use Rattle.service_model.specs.Shapes.{names_member}

-- a number is that of a shape
abbrev pub IsWithin : List Shape → ShapeId → Type 0
IsWithin shapes id = id.0 < length shapes

-- a number is that of a shape of this kind
abbrev pub IsOfKind : Kind → List Shape → ShapeId → Type 0
IsOfKind kind shapes id = kind_of shapes id ≡ Some kind

-- what a list holds, or what stands at the keys of a map
abbrev pub item_at : List Shape → ShapeId → Option ShapeId
item_at shapes id = option_and_then (λ shape. shape.item) (slice_get shapes id.0)

-- the kind of what a list holds, or of what stands at the keys of a map
abbrev pub item_kind : List Shape → ShapeId → Option Kind
item_kind shapes id = option_and_then (kind_of shapes) (item_at shapes id)

-- the kind of what the items of a list or map hold
abbrev pub inner_kind : List Shape → ShapeId → Option Kind
inner_kind shapes id = option_and_then (item_kind shapes) (item_at shapes id)

-- a scalar, or a list of scalars, by its kind and that of its items
abbrev pub are_scalars : Option Kind → Option Kind → Bool
are_scalars shape item = is_scalar shape || (is_list shape && is_scalar item)

-- a place takes a shape, by its kind, that of its items and that of theirs
abbrev pub takes : Location → Option Kind → Option Kind → Option Kind → Bool
takes location.Uri shape item inner = is_scalar shape
takes location.Header shape item inner = are_scalars shape item
takes location.Headers shape item inner = is_map shape && is_string item
takes location.Querystring shape item inner = are_scalars shape item || (is_map shape && are_scalars item inner)
takes location.StatusCode shape item inner = is_some shape

-- a member's shape is there, and one that its place takes; a member for host prefixes is a scalar
pub record IsMember (shapes : List Shape) (m : Member) : Type 0 where
  pub shape : IsWithin shapes m.shape
  pub place : IfSome m.location (λ l. IsTrue (takes l (kind_of shapes m.shape) (item_kind shapes m.shape) (inner_kind shapes m.shape)))
  pub host : IsTrue m.host_label → IsTrue (is_scalar (kind_of shapes m.shape))

-- a list has an item, a map a key that is a string and a value, other kinds have neither
abbrev pub HasItems : List Shape → Kind → Option ShapeId → Option ShapeId → Type 0
HasItems shapes kind.List key item = (key ≡ None) × IsSomeAnd item (IsWithin shapes)
HasItems shapes kind.Map key item = IsSomeAnd key (IsOfKind kind.Str shapes) × IsSomeAnd item (IsWithin shapes)
HasItems shapes _ key item = (key ≡ None) × (item ≡ None)

-- no two members have one name
abbrev pub HasOwnNames : List Member → Type 0
HasOwnNames members = IsDistinct (map (λ m. m.name) members)

-- no two members are sent under one name
abbrev pub HasOwnWires : List Member → Type 0
HasOwnWires members = IsDistinct (map (λ m. m.wire) members)

-- a shape tells whether no two of its members are sent under one name
abbrev pub TellsWires : Shape → Type 0
TellsWires shape = IsTrue shape.has_own_wires ↔ HasOwnWires shape.members

-- a shape's members and items are there, and what it requires and its payload are members of it
pub record IsShape (shapes : List Shape) (shape : Shape) : Type 0 where
  pub members : All (IsMember shapes) shape.members
  pub items : HasItems shapes shape.kind shape.key shape.item
  pub required : All (λ name. IsTrue (names_member shape.members name)) shape.required
  pub payload : IfSome shape.payload (λ name. IsTrue (names_member shape.members name))

abbrev pub is_uri : Option Location → Bool
is_uri (Some location.Uri) = true
is_uri _ = false

-- a member fills this label of a URI: it is sent under that name, stands in URIs and is a scalar
abbrev pub fills_uri : List Shape → List ℕ → Member → Bool
fills_uri shapes label m = bytes_eq label m.wire && (is_uri m.location && is_scalar (kind_of shapes m.shape))

-- a member fills this label of a host prefix: it is sent under that name, stands there and is a scalar
abbrev pub fills_host : List Shape → List ℕ → Member → Bool
fills_host shapes label m = bytes_eq label m.wire && (m.host_label && is_scalar (kind_of shapes m.shape))

-- each label of a template is filled by a member
abbrev pub AreFilled : (List ℕ → Member → Bool) → List Member → List ℕ → Type 0
AreFilled fills members template = All (λ label. IsTrue (list_any (fills label) members)) (labels template)

-- input and output are structures, and members of the input fill the labels
pub record IsOperation (shapes : List Shape) (op : Operation) : Type 0 where
  pub input : IfSome op.input (IsOfKind kind.Structure shapes)
  pub output : IfSome op.output (IsOfKind kind.Structure shapes)
  pub uri : AreFilled (fills_uri shapes) (members_at shapes op.input) op.uri
  pub host : IfSome op.host_prefix (AreFilled (fills_host shapes) (members_at shapes op.input))
