-- The operations of a model, as they stand in its file.
use Rattle.std.specs.Prelude.{ℕ, Bool, true, false, not, ◌==◌, ◌&&◌, ◌||◌, List, [], ◌∷◌, ◌++◌, if◌then◌else◌, length, slice_get, Option, None, Some, option_and_then, Result, Ok, Err, bytes_eq, codes}
use Rattle.std.specs.List.{list_any, list_all}
use Rattle.json_doc.specs.declared.doc.Doc.{Doc}
use Rattle.json_doc.specs.declared.doc.Doc.TheOpen.{Doc-F}
use Rattle.json_doc.specs.declared.doc.Doc.TheViews.{out-Doc}
use Rattle.texts.specs.declared.pairs.Pair.{Pair}
use Rattle.texts.specs.Keys.{value_at}
use Rattle.model_files.specs.declared.fault.ModelFault.{ModelFault}
use Rattle.model_files.specs.declared.fault.ModelFault.TheVariants.{Missing, WrongKind, Collides}
use Rattle.model_files.specs.declared.fault.Place.TheVariants.{At}
use Rattle.service_model.specs.declared.labelled.LabelUse.{LabelUse}
use Rattle.service_model.specs.declared.labelled.LabelUse.TheVariants.{Uri, Host}
use Rattle.service_model.specs.declared.operations.Row.{Row}
use Rattle.service_model.specs.declared.signing.Signing.{Signing}
use Rattle.service_model.specs.declared.shape.ShapeId.{ShapeId}
use Rattle.model_files.specs.Faults.{below, inside, demand, each}
use Rattle.texts.specs.Calls.{◌>>=◌}
use Rattle.service_model.specs.Labels.{labels}
use Rattle.service_model.specs.Metadata.{is_among, is_text}
use Rattle.model_files.specs.Names.{command_name}
use Rattle.service_model.specs.Numbering.{Names, number_of, structure_in, text_in, value_in}
use Rattle.model_files.specs.Reading.{Fields, fields_of, text_at, maybe_text, maybe_texts, maybe_object, needed, is_true_at, is_true_in}

-- the command name of an operation, which no earlier one has
unfoldable pub command_of : List (List ℕ) → List ℕ → Result (List ℕ) ModelFault
command_of earlier name = demand (not (list_any (bytes_eq (command_name name)) earlier)) (Collides (At (codes "name"))) (Ok (command_name name))

abbrev pub fields_if_view : Doc-F Doc → Option Fields
fields_if_view (Doc-F.Fields fields) = Some fields
fields_if_view _ = None

-- a document that may be an object
unfoldable pub fields_if : Doc → Option Fields
fields_if doc = fields_if_view (out-Doc doc)

abbrev pub if_structure : Bool → Option Fields → Option Fields
if_structure true members = members
if_structure false members = None

-- the members of a structure, where they can be read
abbrev pub members_in : Doc → Option Fields
members_in shape =
    option_and_then (λ kind. if_structure (bytes_eq kind (codes "structure")) (option_and_then fields_if (value_in (codes "members") shape))) (text_in (codes "type") shape)

-- the members of an operation's input, where they can be read
unfoldable pub input_members : Names → Fields → Fields → Option Fields
input_members names shapes fields =
    option_and_then (λ input. option_and_then (λ name. option_and_then (λ number. option_and_then (λ p. members_in p.value) (slice_get shapes number)) (number_of names name)) (text_in (codes "shape") input)) (value_at (codes "input") fields)

abbrev pub is_true_maybe_in : Option Doc → Bool
is_true_maybe_in None = false
is_true_maybe_in (Some doc) = is_true_in (out-Doc doc)

-- a member says that it stands in URIs, or in host prefixes
abbrev pub fills_labels : LabelUse → Doc → Bool
fills_labels Uri member = is_text (codes "uri") (text_in (codes "location") member)
fills_labels Host member = is_true_maybe_in (value_in (codes "hostLabel") member)

abbrev pub text_is : List ℕ → Doc-F Doc → Bool
text_is name (Doc-F.Str text) = bytes_eq name text
text_is name _ = false

-- a member has this wire name: what stands at `locationName`, else its own name
abbrev pub has_wire_name : List ℕ → Pair Doc → Option Doc → Bool
has_wire_name name p None = bytes_eq name p.key
has_wire_name name p (Some wire) = text_is name (out-Doc wire)

abbrev pub is_labelled : LabelUse → List ℕ → Pair Doc → Bool
is_labelled place name p = fills_labels place p.value && has_wire_name name p (value_in (codes "locationName") p.value)

abbrev pub names_one : LabelUse → Option Fields → List ℕ → Bool
names_one place None name = false
names_one place (Some members) name = list_any (is_labelled place name) members

-- each label names a member that can stand there
abbrev pub are_named : LabelUse → Option Fields → List (List ℕ) → Bool
are_named place members names = list_all (names_one place members) names

unfoldable pub uri_of : Names → Fields → Fields → Fields → Result (List ℕ) ModelFault
uri_of names shapes fields http = do
  uri ← text_at (codes "requestUri") http
  demand (are_named Uri (input_members names shapes fields) (labels uri)) (WrongKind (At (codes "requestUri"))) (Ok uri)

unfoldable pub method_and_uri : Names → Fields → Fields → Fields → Result (List ℕ × List ℕ) ModelFault
method_and_uri names shapes fields http = do
  method ← text_at (codes "method") http
  uri ← uri_of names shapes fields http
  Ok (method, uri)

abbrev pub http_in : Names → Fields → Fields → Option Fields → Result (List ℕ × List ℕ) ModelFault
http_in names shapes fields None = Err (Missing (below (codes "http") (At (codes "method"))))
http_in names shapes fields (Some http) = inside (codes "http") (method_and_uri names shapes fields http)

-- the method of HTTP and the URI, each of whose labels names a member of the input that stands in URIs
unfoldable pub http_of : Names → Fields → Fields → Result (List ℕ × List ℕ) ModelFault
http_of names shapes fields = do
  http ← maybe_object (codes "http") fields
  http_in names shapes fields http

abbrev pub structure_maybe : Names → List ℕ → Option Doc → Result (Option ShapeId) ModelFault
structure_maybe names key None = Ok None
structure_maybe names key (Some doc) = do
  id ← inside key (structure_in names doc)
  Ok (Some id)

-- the structure that is named at a key, where there is one
unfoldable pub structure_at : Names → List ℕ → Fields → Result (Option ShapeId) ModelFault
structure_at names key fields = structure_maybe names key (value_at key fields)

abbrev pub prefix_in : Option Fields → Option (List ℕ) → Result (Option (List ℕ)) ModelFault
prefix_in members None = Ok None
prefix_in members (Some prefix) = demand (are_named Host members (labels prefix)) (WrongKind (At (codes "hostPrefix"))) (Ok (Some prefix))

unfoldable pub endpoint_prefix : Option Fields → Fields → Result (Option (List ℕ)) ModelFault
endpoint_prefix members endpoint = do
  prefix ← maybe_text (codes "hostPrefix") endpoint
  prefix_in members prefix

abbrev pub endpoint_in : Option Fields → Option Fields → Result (Option (List ℕ)) ModelFault
endpoint_in members None = Ok None
endpoint_in members (Some endpoint) = inside (codes "endpoint") (endpoint_prefix members endpoint)

-- the prefix of the host, each of whose labels names a member of the input that stands there
unfoldable pub host_prefix_of : Names → Fields → Fields → Result (Option (List ℕ)) ModelFault
host_prefix_of names shapes fields = do
  endpoint ← maybe_object (codes "endpoint") fields
  endpoint_in (input_members names shapes fields) endpoint

-- the one scheme is that of no signature
abbrev pub is_no_auth : Option (List (List ℕ)) → Bool
is_no_auth None = false
is_no_auth (Some schemes) = length schemes == 1 && is_among (codes "smithy.api#noAuth") schemes

-- version 4 is among the schemes, where there are some
abbrev pub has_v4 : Option (List (List ℕ)) → Bool
has_v4 None = true
has_v4 (Some schemes) = is_among (codes "aws.auth#sigv4") schemes

-- there is an `authtype`, and it is another than none and version 4
abbrev pub is_other_kind : Option (List ℕ) → Bool
is_other_kind None = false
is_other_kind (Some kind) = not (bytes_eq kind (codes "none") || bytes_eq kind (codes "v4"))

abbrev pub is_unsigned : Option (List ℕ) → Option (List (List ℕ)) → Bool
is_unsigned kind schemes = is_text (codes "none") kind || is_no_auth schemes

-- an operation is signed in another way than by version 4
abbrev pub is_signed_otherwise : Bool → Option (List ℕ) → Option (List (List ℕ)) → Bool
is_signed_otherwise signs_by_v4 kind schemes =
    not (is_unsigned kind schemes || signs_by_v4 && has_v4 schemes) || is_other_kind kind

unfoldable pub signing_of : Bool → Fields → Result Signing ModelFault
signing_of signs_by_v4 fields = do
  kind ← maybe_text (codes "authtype") fields
  schemes ← maybe_texts (codes "auth") fields
  Ok (record { unsigned = is_unsigned kind schemes; is_other = is_signed_otherwise signs_by_v4 kind schemes })

abbrev pub is_fixed : Doc-F Doc → Bool
is_fixed (Doc-F.Str text) = true
is_fixed (Doc-F.Flag flag) = true
is_fixed _ = false

-- the value of a parameter: a text or a flag
unfoldable pub fixed_value : Pair Doc → Result (List ℕ × Doc) ModelFault
fixed_value p = do
  fields ← fields_of p.value
  value ← needed (codes "value") fields
  demand (is_fixed (out-Doc value)) (WrongKind (At (codes "value"))) (Ok (p.key, value))

unfoldable pub fixed_in : Doc → Result (List (List ℕ × Doc)) ModelFault
fixed_in doc = do
  pairs ← fields_of doc
  each fixed_value pairs

abbrev pub fixed_maybe : Option Doc → Result (List (List ℕ × Doc)) ModelFault
fixed_maybe None = Ok []
fixed_maybe (Some doc) = inside (codes "staticContextParams") (fixed_in doc)

-- the parameters of endpoint rules that an operation sets
unfoldable pub fixed_params_of : Fields → Result (List (List ℕ × Doc)) ModelFault
fixed_params_of fields = fixed_maybe (value_at (codes "staticContextParams") fields)

abbrev pub true_below : List ℕ → Option Fields → Bool
true_below key None = false
true_below key (Some fields) = is_true_at key fields

-- true stands at a key of what may be an object at a key
unfoldable pub is_true_below : List ℕ → List ℕ → Fields → Bool
is_true_below object key fields = true_below key (option_and_then fields_if (value_at object fields))

-- a request must have a checksum
abbrev pub needs_checksum : Fields → Bool
needs_checksum fields = is_true_at (codes "httpChecksumRequired") fields || is_true_below (codes "httpChecksum") (codes "requestChecksumRequired") fields

-- the endpoint must be asked for
abbrev pub needs_discovery : Fields → Bool
needs_discovery fields = is_true_below (codes "endpointdiscovery") (codes "required") fields

unfoldable pub operation_of : Names → Fields → Bool → List (List ℕ) → Doc → Result Row ModelFault
operation_of names shapes signs_by_v4 earlier doc = do
  fields ← fields_of doc
  name ← text_at (codes "name") fields
  command ← command_of earlier name
  http ← http_of names shapes fields
  input ← structure_at names (codes "input") fields
  output ← structure_at names (codes "output") fields
  host_prefix ← host_prefix_of names shapes fields
  signing ← signing_of signs_by_v4 fields
  fixed_params ← fixed_params_of fields
  Ok (record {
    name = name;
    command = command;
    method = http.0;
    uri = http.1;
    input = input;
    output = output;
    host_prefix = host_prefix;
    unsigned = signing.unsigned;
    is_signed_otherwise = signing.is_other;
    fixed_params = fixed_params;
    needs_checksum = needs_checksum fields;
    needs_discovery = needs_discovery fields;
  })

-- these names and this one, each once
abbrev pub with_name : List (List ℕ) → List ℕ → List (List ℕ)
with_name names name = if list_any (bytes_eq name) names then names else names ++ name ∷ []

-- the operations in their order, behind those with the given command names
abbrev pub operations_of : Names → Fields → Bool → List (List ℕ) → Fields → Result (List Row) ModelFault
operations_of names shapes signs_by_v4 earlier [] = Ok []
operations_of names shapes signs_by_v4 earlier (p ∷ ps) = do
  row ← inside p.key (operation_of names shapes signs_by_v4 earlier p.value)
  others ← operations_of names shapes signs_by_v4 (with_name earlier row.command) ps
  Ok (row ∷ others)
