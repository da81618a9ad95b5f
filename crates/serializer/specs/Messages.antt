-- The message of a value: method, host, path, query, headers and body, or its first fault.
use Rattle.std.specs.Prelude.{ℕ, ◌==◌, Bool, not, ◌&&◌, if◌then◌else◌, List, [], ◌∷◌, ◌++◌, Option, None, Some, unwrap_or, Result, Ok, codes}
use Rattle.std.specs.Fmt.{decimal}
use Rattle.aws_world.specs.declared.message.Message.{Message}
use Rattle.endpoint_rules.specs.declared.endpoint.Endpoint.{Endpoint}
use Rattle.endpoint_rules.specs.declared.endpoint.Scheme.{Scheme}
use Rattle.endpoint_rules.specs.declared.endpoint.Scheme.TheVariants.{Http, Https}
use Rattle.service_model.specs.declared.model.Table.{Table}
use Rattle.service_model.specs.declared.operation.Operation.{Operation}
use Rattle.service_model.specs.Admission.{members_at}
use Rattle.texts.specs.Calls.{◌>>=◌}
use Rattle.texts.specs.Marks.{around_first, without_last}
use Rattle.texts.specs.declared.pairs.Pair.{Pair}
use Rattle.typed_value.specs.declared.typed.Typed.{Typed, out-Typed}
use Rattle.typed_value.specs.declared.typed.Typed.TheOpen.{Typed-F}
use Rattle.uri_texts.specs.declared.templates.Piece.{Piece}
use Rattle.uri_texts.specs.declared.templates.Piece.TheVariants.{Plain}
use Rattle.uri_texts.specs.Constants.{constants}
use Rattle.uri_texts.specs.Templates.{pieces}
use Rattle.serializer.specs.declared.encode_fault.EncodeFault.{EncodeFault}
use Rattle.serializer.specs.Bodies.{has_json_body, body_of}
use Rattle.serializer.specs.Faults.{Asked, headers_from}
use Rattle.serializer.specs.HeaderNames.{is_among}
use Rattle.serializer.specs.Labels.{path_text, host_text}
use Rattle.serializer.specs.Members.{is_json}
use Rattle.serializer.specs.Queries.{parameters_of}

-- the members that have values
abbrev pub fields_in : {X : Type 0} → Typed-F X → List (Pair X)
fields_in (Typed-F.Fields ps) = ps
fields_in others = []

-- what stands before the query of a URI
abbrev pub path_before : List ℕ → List ℕ
path_before uri = elim (around_first 63 uri) [ Some halves ↦ halves.0 | None ↦ uri ]

-- the pieces of the path; `json` fills no labels in it
abbrev pub path_pieces : Bool → List ℕ → List Piece
path_pieces is_json uri = if is_json then Plain (path_before uri) ∷ [] else pieces (path_before uri)

abbrev pub host_pieces : Option (List ℕ) → List Piece
host_pieces None = []
host_pieces (Some prefix) = pieces prefix

abbrev pub asked_of : Table → Operation → Typed → Asked
asked_of table op value = record {
  table = table;
  op = op;
  fields = fields_in (out-Typed value);
  path = path_pieces (is_json table.metadata.protocol) op.uri;
  host = host_pieces op.host_prefix;
}

abbrev pub is_usual_port : Scheme → ℕ → Bool
is_usual_port Http port = port == 80
is_usual_port Https port = port == 443

-- the port where it isn't the scheme's own
abbrev pub port_text : Endpoint → List ℕ
port_text e = if is_usual_port e.scheme e.port then [] else codes ":" ++ decimal e.port

-- the host prefix, the endpoint's host and its port
abbrev pub host_of : Asked → Endpoint → List ℕ
host_of asked e =
    host_text asked.table.shapes (members_at asked.table.shapes asked.op.input) asked.fields asked.host ++ e.host ++ port_text e

-- a path without a final `/`
abbrev pub base_path : List ℕ → List ℕ
base_path path = unwrap_or (without_last 47 path) path

-- the endpoint's path without a final `/`, and the operation's
abbrev pub path_of : Asked → Endpoint → List ℕ
path_of asked e =
    base_path e.path ++ path_text asked.table.shapes (members_at asked.table.shapes asked.op.input) asked.fields asked.path

-- the constants of the URI, then by `rest-json` the members that stand in the query
abbrev pub query_of : Asked → List (List ℕ × List ℕ)
query_of asked =
    constants asked.op.uri
    ++ (if is_json asked.table.metadata.protocol then []
    else parameters_of asked.table.shapes (members_at asked.table.shapes asked.op.input) asked.fields)

abbrev pub target_of : Asked → List ℕ
target_of asked = asked.table.metadata.target_prefix ++ codes "." ++ asked.op.name

abbrev pub json_type : Asked → List ℕ
json_type asked = codes "application/x-amz-json-" ++ asked.table.metadata.json_version

-- what `json` says of an operation and of the body
abbrev pub json_headers : Asked → List (List ℕ × List ℕ)
json_headers asked = (codes "X-Amz-Target", target_of asked) ∷ (codes "Content-Type", json_type asked) ∷ []

-- the headers before those of the members
abbrev pub first_headers : Asked → List ℕ → List (List ℕ × List ℕ)
first_headers asked host = (codes "Host", host) ∷ (if is_json asked.table.metadata.protocol then json_headers asked else [])

-- by `rest-json` a JSON body has its type, unless a member gave one
abbrev pub needs_type : Asked → List (List ℕ × List ℕ) → Bool
needs_type asked hs =
    not (is_json asked.table.metadata.protocol) && has_json_body asked.table.shapes asked.op.input && not (is_among hs (codes "Content-Type"))

abbrev pub with_type : Asked → List (List ℕ × List ℕ) → List (List ℕ × List ℕ)
with_type asked hs = if needs_type asked hs then hs ++ (codes "Content-Type", codes "application/json") ∷ [] else hs

abbrev pub headers_due : Asked → List ℕ → Result (List (List ℕ × List ℕ)) EncodeFault
headers_due asked host =
    headers_from asked (first_headers asked host) (members_at asked.table.shapes asked.op.input) >>= (λ hs. Ok (with_type asked hs))

abbrev pub message_with : Asked → Endpoint → List (List ℕ × List ℕ) → Message
message_with asked e headers = record {
  method = asked.op.method;
  host = host_of asked e;
  path = path_of asked e;
  query = query_of asked;
  headers = headers;
  body = body_of asked.table asked.op.input asked.fields;
}

abbrev pub encoded_by : Asked → Endpoint → Result Message EncodeFault
encoded_by asked e = headers_due asked (host_of asked e) >>= (λ hs. Ok (message_with asked e hs))

-- the message of a value at an endpoint, or the fault of its first member that can't be sent
abbrev pub encoded : Table → Operation → Typed → Endpoint → Result Message EncodeFault
encoded table op value e = encoded_by (asked_of table op value) e
