-- What is built of the operations of a model.
use Rattle.std.specs.Prelude.{Bool, true, false, ◌&&◌, bytes_eq, codes, List, [], Option, None, Some, is_none, slice_get, option_map}
use Rattle.service_model.specs.declared.metadata.Protocol.{Protocol}
use Rattle.service_model.specs.declared.metadata.Protocol.TheVariants.{Json}
use Rattle.service_model.specs.declared.model.Table.{Table}
use Rattle.service_model.specs.declared.operation.Operation.{Operation}
use Rattle.service_model.specs.declared.shape.Kind.{Kind}
use Rattle.service_model.specs.declared.shape.Kind.TheVariants as kind
use Rattle.service_model.specs.declared.shape.Member.{Member}
use Rattle.service_model.specs.declared.shape.Shape.{Shape}
use Rattle.service_model.specs.declared.shape.ShapeId.{ShapeId}
use Rattle.service_model.specs.Admission.{members_at}
use Rattle.aws_main.specs.declared.plain_operations.PlainMember.{PlainMember}
use Rattle.aws_main.specs.declared.plain_operations.PlainOperation.{PlainOperation}
use Rattle.aws_main.specs.Finding.{◌>>=◌, when, each}

abbrev pub is_json : Protocol → Bool
is_json Json = true
is_json _ = false

-- the shape of a number, where there is a number
abbrev pub shape_maybe : List Shape → Option ShapeId → Option Shape
shape_maybe shapes None = None
shape_maybe shapes (Some id) = slice_get shapes id.0

abbrev pub is_str : Kind → Bool
is_str kind.Str = true
is_str _ = false

abbrev pub is_string_in : Option Shape → Bool
is_string_in None = false
is_string_in (Some shape) = is_str shape.kind

-- a list of strings
abbrev pub list_of_strings : Bool → Option Bool
list_of_strings true = Some true
list_of_strings false = None

-- whether values of a kind are lists of strings: else they are strings
abbrev pub is_list_by : Kind → Bool → Option Bool
is_list_by kind.Str holds_strings = Some false
is_list_by kind.List holds_strings = list_of_strings holds_strings
is_list_by _ holds_strings = None

abbrev pub is_list_in : List Shape → Option Shape → Option Bool
is_list_in shapes None = None
is_list_in shapes (Some shape) = is_list_by shape.kind (is_string_in (shape_maybe shapes shape.item))

-- whether a shape is a list of strings: else it must be a string
unfoldable pub is_list_of : List Shape → ShapeId → Option Bool
is_list_of shapes id = is_list_in shapes (slice_get shapes id.0)

-- a member that stands in the body under its own name, and is a string or a list of strings
unfoldable pub plain_member : List Shape → Member → Option PlainMember
plain_member shapes m = when (is_none m.location && bytes_eq m.wire m.name) (do
  is_list ← is_list_of shapes m.shape
  Some (record { name = m.name; is_list = is_list }))

-- the members of the output, where there is one
abbrev pub plain_output : List Shape → Option ShapeId → Option (Option (List PlainMember))
plain_output shapes None = Some None
plain_output shapes (Some id) = option_map Some (each (plain_member shapes) (members_at shapes (Some id)))

abbrev pub is_empty : {A : Type 0} → List A → Bool
is_empty [] = true
is_empty _ = false

-- an operation takes no members and is sent by POST to `/` of the endpoint's own host, in the
-- protocol `json`
unfoldable pub is_sent_plainly : Table → Operation → Bool
is_sent_plainly model operation =
    is_json model.metadata.protocol && bytes_eq operation.method (codes "POST") && bytes_eq operation.uri (codes "/")
    && is_none operation.host_prefix && is_empty (members_at model.shapes operation.input)

-- what is built of an operation of the model, if it is built
unfoldable pub plain_operation : Table → Operation → Option PlainOperation
plain_operation model operation = when (is_sent_plainly model operation) (do
  output ← plain_output model.shapes operation.output
  Some (record {
    name = operation.name;
    target_prefix = model.metadata.target_prefix;
    json_version = model.metadata.json_version;
    output = output;
  }))
