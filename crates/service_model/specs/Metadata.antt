-- What a model says of its whole service: `metadata` in botocore's `service-2.json`.
use Rattle.std.specs.Prelude.{ℕ, Bool, true, false, if◌then◌else◌, List, [], Option, None, Some, Result, Ok, Err, bytes_eq, codes}
use Rattle.std.specs.List.{list_any}
use Rattle.model_files.specs.declared.fault.ModelFault.{ModelFault}
use Rattle.model_files.specs.declared.fault.ModelFault.TheVariants.{Missing}
use Rattle.model_files.specs.declared.fault.Place.TheVariants.{At}
use Rattle.service_model.specs.declared.metadata.Described.{Described}
use Rattle.service_model.specs.declared.metadata.Protocol.{Protocol}
use Rattle.service_model.specs.declared.metadata.Protocol.TheVariants.{Json, RestJson, Other}
use Rattle.texts.specs.Calls.{◌>>=◌}
use Rattle.model_files.specs.Reading.{Fields, text_at, maybe_text, maybe_texts}

-- a text stands in the list
abbrev pub is_among : List ℕ → List (List ℕ) → Bool
is_among text texts = list_any (λ other. bytes_eq other text) texts

-- there is a text, and it is this
abbrev pub is_text : List ℕ → Option (List ℕ) → Bool
is_text text None = false
is_text text (Some found) = bytes_eq found text

abbrev pub protocol_named : List ℕ → Protocol
protocol_named name = if bytes_eq name (codes "json") then Json else if bytes_eq name (codes "rest-json") then RestJson else Other

-- `json` where it is among the names, else `rest-json`
abbrev pub protocol_among : List (List ℕ) → Protocol
protocol_among names = if is_among (codes "json") names then Json else if is_among (codes "rest-json") names then RestJson else Other

abbrev pub protocol_from : Option (List ℕ) → Option (List (List ℕ)) → Result Protocol ModelFault
protocol_from protocol (Some names) = Ok (protocol_among names)
protocol_from (Some name) None = Ok (protocol_named name)
protocol_from None None = Err (Missing (At (codes "protocol")))

-- the protocol: of `protocols` where they are given, else `protocol`
unfoldable pub protocol_of : Fields → Result Protocol ModelFault
protocol_of fields = do
  protocol ← maybe_text (codes "protocol") fields
  protocols ← maybe_texts (codes "protocols") fields
  protocol_from protocol protocols

abbrev pub is_json : Protocol → Bool
is_json Json = true
is_json RestJson = false
is_json Other = false

abbrev pub json_or_empty : Bool → List ℕ → Option (List ℕ) → Result (List ℕ) ModelFault
json_or_empty is_json key (Some text) = Ok text
json_or_empty true key None = Err (Missing (At key))
json_or_empty false key None = Ok []

-- a text that is needed where the protocol is `json`, and is empty where it isn't there
unfoldable pub json_text : Bool → List ℕ → Fields → Result (List ℕ) ModelFault
json_text is_json key fields = do
  text ← maybe_text key fields
  json_or_empty is_json key text

unfoldable pub metadata_of : Fields → Result Described ModelFault
metadata_of fields = do
  protocol ← protocol_of fields
  version ← json_text (is_json protocol) (codes "jsonVersion") fields
  prefix ← json_text (is_json protocol) (codes "targetPrefix") fields
  endpoint ← text_at (codes "endpointPrefix") fields
  signing ← maybe_text (codes "signingName") fields
  signature ← maybe_text (codes "signatureVersion") fields
  Ok (record {
    metadata = record { protocol = protocol; json_version = version; target_prefix = prefix; endpoint_prefix = endpoint; signing_name = signing };
    signs_by_v4 = is_text (codes "v4") signature;
  })
