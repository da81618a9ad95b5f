-- The body of a message.
use Rattle.std.specs.Prelude.{ℕ, Bool, true, false, not, if◌then◌else◌, List, [], Option, None, Some, filter, codes, encode_utf8_all}
use Rattle.std.specs.List.{list_any}
use Rattle.service_model.specs.declared.model.Table.{Table}
use Rattle.service_model.specs.declared.shape.Member.{Member}
use Rattle.service_model.specs.declared.shape.Shape.{Shape}
use Rattle.service_model.specs.declared.shape.ShapeId.{ShapeId}
use Rattle.service_model.specs.Admission.{members_at}
use Rattle.texts.specs.Keys.{value_at}
use Rattle.texts.specs.declared.pairs.Pair.{Pair}
use Rattle.typed_value.specs.declared.typed.Typed.{Typed, out-Typed}
use Rattle.typed_value.specs.declared.typed.Typed.TheOpen.{Typed-F}
use Rattle.json_doc.specs.Compact.{compact_of}
use Rattle.json_doc.specs.declared.doc.Doc.{Doc}
use Rattle.value_texts.specs.Documents.{document_of, members_document, is_in_body}
use Rattle.value_texts.specs.Slots.{slot_of_member}
use Rattle.serializer.specs.Members.{is_json, payload_at, is_raw}

-- a payload is JSON where it isn't sent as its own bytes; without one, a body is where a member stands in it
abbrev pub has_json_by : List Shape → List Member → Option Member → Bool
has_json_by shapes members (Some payload) = not (is_raw shapes payload)
has_json_by shapes members None = list_any (is_in_body false) members

-- whether the body is JSON, by the protocol `rest-json`
abbrev pub has_json_body : List Shape → Option ShapeId → Bool
has_json_body shapes input = has_json_by shapes (members_at shapes input) (payload_at shapes input)

abbrev pub raw_bytes : {X : Type 0} → Typed-F X → List ℕ
raw_bytes (Typed-F.Text t) = encode_utf8_all t
raw_bytes (Typed-F.Blob bytes) = bytes
raw_bytes others = []

-- the compact text of a document
abbrev pub json_bytes : Doc → List ℕ
json_bytes doc = encode_utf8_all (compact_of doc)

-- a payload: its own bytes, or its JSON; where it has no value, nothing or an empty object
abbrev pub payload_body : List Shape → Member → Option Typed → List ℕ
payload_body shapes m None = if is_raw shapes m then [] else codes "{}"
payload_body shapes m (Some v) =
    if is_raw shapes m then raw_bytes (out-Typed v) else json_bytes (document_of shapes v (slot_of_member m))

-- the members that stand in the body, as an object
abbrev pub object_body : Bool → List Shape → List Member → List (Pair Typed) → List ℕ
object_body is_json shapes members ps = json_bytes (members_document shapes (filter (is_in_body is_json) members) ps)

abbrev pub rest_body : List Shape → List Member → List (Pair Typed) → Option Member → List ℕ
rest_body shapes members ps (Some payload) = payload_body shapes payload (value_at payload.name ps)
rest_body shapes members ps None = if list_any (is_in_body false) members then object_body false shapes members ps else []

-- by `json` the object of all members, by `rest-json` the payload, or the object of those without a location
abbrev pub body_of : Table → Option ShapeId → List (Pair Typed) → List ℕ
body_of table input ps =
    if is_json table.metadata.protocol then object_body true table.shapes (members_at table.shapes input) ps
    else rest_body table.shapes (members_at table.shapes input) ps (payload_at table.shapes input)
