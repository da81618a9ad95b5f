-- Why an operation can't be called: the first rule that holds.
use Rattle.std.specs.Prelude.{◌≡◌, ℕ, Bool, true, false, not, ◌&&◌, ◌⊎◌, IsTrue, List, [], slice_get, Option, None, Some, option_map, option_and_then, bytes_eq}
use Rattle.std.specs.List.{list_any}
use Rattle.service_model.specs.declared.metadata.Protocol.{Protocol}
use Rattle.service_model.specs.declared.metadata.Protocol.TheVariants.{Other}
use Rattle.service_model.specs.declared.operation.Operation.{Operation}
use Rattle.service_model.specs.declared.operation.Refusal.{Refusal}
use Rattle.service_model.specs.declared.operation.Refusal.TheVariants as refusal
use Rattle.service_model.specs.declared.operations.Row.{Row}
use Rattle.service_model.specs.declared.shape.Kind.{Kind}
use Rattle.service_model.specs.declared.shape.Kind.TheVariants as kind
use Rattle.service_model.specs.declared.shape.Location.{Location}
use Rattle.service_model.specs.declared.shape.Location.TheVariants as location
use Rattle.service_model.specs.declared.shape.Member.{Member}
use Rattle.service_model.specs.declared.shape.Shape.{Shape}
use Rattle.service_model.specs.declared.shape.ShapeId.{ShapeId}
pub use Rattle.service_model.specs.Arguments.{kind_of, shared_argument}
use Rattle.service_model.specs.Numbering.{is_string}
use Rattle.service_model.specs.Reach.{Reaches}

-- the shape is there, and reaches one with this property
abbrev pub ReachesMaybe : List Shape → (Shape → Type 0) → Option ShapeId → Type 0
ReachesMaybe shapes P None = ⊥
ReachesMaybe shapes P (Some id) = Reaches shapes P id

-- the input or the output reaches a shape with this property
abbrev pub HasPart : List Shape → (Shape → Type 0) → Row → Type 0
HasPart shapes P row = ReachesMaybe shapes P row.input ⊎ ReachesMaybe shapes P row.output

abbrev pub is_header : Option Location → Bool
is_header (Some location.Header) = true
is_header _ = false

-- a JSON document stands in another place than a header, or isn't a string
abbrev pub is_stray_json : List Shape → Member → Bool
is_stray_json shapes m = m.json_value && not (is_header m.location && is_string (kind_of shapes m.shape))

abbrev pub has_stray_json : List Shape → Shape → Bool
has_stray_json shapes shape = list_any (is_stray_json shapes) shape.members

abbrev pub is_blob : Option Kind → Bool
is_blob (Some kind.Blob) = true
is_blob _ = false

abbrev pub is_payload_blob : List Shape → Shape → Option (List ℕ) → Bool
is_payload_blob shapes shape None = false
is_payload_blob shapes shape (Some payload) = list_any (λ m. bytes_eq m.name payload && is_blob (kind_of shapes m.shape)) shape.members

abbrev pub blob_in : List Shape → Option Shape → Bool
blob_in shapes None = false
blob_in shapes (Some shape) = is_payload_blob shapes shape shape.payload

-- the body of a reply is bytes
abbrev pub has_blob_body : List Shape → Option ShapeId → Bool
has_blob_body shapes output = blob_in shapes (option_and_then (λ id. slice_get shapes id.0) output)

abbrev pub members_in_maybe : Option Shape → List Member
members_in_maybe None = []
members_in_maybe (Some shape) = shape.members

-- the members of the input
abbrev pub members_at : List Shape → Option ShapeId → List Member
members_at shapes None = []
members_at shapes (Some id) = members_in_maybe (slice_get shapes id.0)

abbrev pub IsOther : Protocol → Type 0
IsOther Other = Unit {0}
IsOther _ = ⊥

-- the answer is this refusal where its rule holds, else what comes after
abbrev pub Or : Type 0 → Refusal → Option Refusal → Type 0 → Type 0
Or Rule refused answer others = (Rule × (answer ≡ Some refused)) ⊎ ((Rule → ⊥) × others)

-- the answer is the refusal of the first rule that holds
abbrev pub IsRefusal : Protocol → List Shape → Row → Option Refusal → Type 0
IsRefusal protocol shapes row answer =
    Or (IsOther protocol) refusal.Protocol answer
    (Or (HasPart shapes (λ shape. IsTrue shape.events) row) refusal.Events answer
    (Or (IsTrue row.is_signed_otherwise) refusal.Signature answer
    (Or (IsTrue row.needs_checksum) refusal.Checksum answer
    (Or (IsTrue row.needs_discovery) refusal.Discovery answer
    (Or (HasPart shapes (λ shape. IsTrue (has_stray_json shapes shape)) row) refusal.JsonValue answer
    (Or (IsTrue (has_blob_body shapes row.output)) refusal.BlobOutput answer
    (answer ≡ option_map refusal.SameArgument (shared_argument shapes (members_at shapes row.input)))))))))

-- an operation is what the file says of it, and its refusal is that of the first rule that holds
abbrev pub IsAdmitted : Protocol → List Shape → Row → Operation → Type 0
IsAdmitted protocol shapes row op =
    (op.name ≡ row.name) × (op.command ≡ row.command) × (op.method ≡ row.method) × (op.uri ≡ row.uri)
    × (op.input ≡ row.input) × (op.output ≡ row.output) × (op.host_prefix ≡ row.host_prefix)
    × (op.unsigned ≡ row.unsigned) × (op.fixed_params ≡ row.fixed_params)
    × IsRefusal protocol shapes row op.refusal
