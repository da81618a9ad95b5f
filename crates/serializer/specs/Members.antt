-- The members of an operation's input, and where each is sent.
use Rattle.std.specs.Prelude.{Bool, true, false, List, Option, Some, slice_get, option_and_then}
use Rattle.service_model.specs.declared.metadata.Protocol.{Protocol}
use Rattle.service_model.specs.declared.metadata.Protocol.TheVariants.{Json, RestJson, Other}
use Rattle.service_model.specs.declared.shape.Kind.{Kind}
use Rattle.service_model.specs.declared.shape.Kind.TheVariants as kind
use Rattle.service_model.specs.declared.shape.Member.{Member}
use Rattle.service_model.specs.declared.shape.Shape.{Shape}
use Rattle.service_model.specs.declared.shape.ShapeId.{ShapeId}
use Rattle.service_model.specs.Arguments.{kind_of}
use Rattle.typed_value.specs.Places.{member_named}

abbrev pub is_json : Protocol → Bool
is_json Json = true
is_json RestJson = false
is_json Other = false

abbrev pub payload_in : Shape → Option Member
payload_in shape = option_and_then (λ name. member_named name shape.members) shape.payload

-- the member that is the whole body, where the input names one
abbrev pub payload_at : List Shape → Option ShapeId → Option Member
payload_at shapes input = option_and_then payload_in (option_and_then (λ id. slice_get shapes id.0) input)

abbrev pub is_raw_kind : Option Kind → Bool
is_raw_kind (Some kind.Blob) = true
is_raw_kind (Some kind.Str) = true
is_raw_kind others = false

-- a payload is sent as its own bytes
abbrev pub is_raw : List Shape → Member → Bool
is_raw shapes m = is_raw_kind (kind_of shapes m.shape)
