-- The first member, in the model's order, that can't be sent, and of one member the first fault.
use Rattle.std.specs.Prelude.{ℕ, Bool, true, false, not, ◌&&◌, ◌||◌, if◌then◌else◌, List, [], ◌∷◌, ◌++◌, Option, None, Some, Result, Ok, Err, bytes_eq}
use Rattle.std.specs.Option.{option_or}
use Rattle.endpoint_rules.specs.HostLabels.{is_label}
use Rattle.service_model.specs.declared.model.Table.{Table}
use Rattle.service_model.specs.declared.operation.Operation.{Operation}
use Rattle.service_model.specs.declared.shape.Location.{Location}
use Rattle.service_model.specs.declared.shape.Location.TheVariants as location
use Rattle.service_model.specs.declared.shape.Member.{Member}
use Rattle.service_model.specs.declared.shape.Shape.{Shape}
use Rattle.service_model.specs.declared.shape.TimeForm.{TimeForm}
use Rattle.service_model.specs.declared.shape.TimeForm.TheVariants as form
use Rattle.texts.specs.Calls.{◌>>=◌}
use Rattle.texts.specs.Keys.{value_at}
use Rattle.texts.specs.declared.pairs.Pair.{Pair}
use Rattle.typed_value.specs.declared.typed.Typed.{Typed}
use Rattle.uri_texts.specs.declared.templates.Piece.{Piece}
use Rattle.value_texts.specs.LostTimes.{is_lost}
use Rattle.value_texts.specs.Slots.{slot_of_member}
use Rattle.serializer.specs.declared.encode_fault.EncodeFault.{EncodeFault}
use Rattle.serializer.specs.declared.encode_fault.EncodeFault.TheVariants as fault
use Rattle.serializer.specs.declared.labels.Labelled.TheVariants.{Path, Host}
use Rattle.serializer.specs.HeaderNames.{is_bad_header}
use Rattle.serializer.specs.HeaderTexts.{member_headers}
use Rattle.serializer.specs.Labels.{has_label, member_text}
use Rattle.serializer.specs.Members.{is_json, payload_at}

-- headers, each a name and its value
abbrev pub Fields : Type 0
Fields = List (List ℕ × List ℕ)

-- what is asked of an operation: the model's table, the operation, the members' values, and the pieces of the
-- path and of the host prefix
pub record Asked : Type 0 where
  pub table : Table
  pub op : Operation
  pub fields : List (Pair Typed)
  pub path : List Piece
  pub host : List Piece

abbrev pub given_is_lost : List Shape → TimeForm → Member → Option Typed → Bool
given_is_lost shapes usual m None = false
given_is_lost shapes usual m (Some v) = is_lost shapes usual v (slot_of_member m)

-- a time of the member has no text, with the form that is usual in a part of the request
abbrev pub is_lost_as : Asked → TimeForm → Member → Bool
is_lost_as asked usual m = given_is_lost asked.table.shapes usual m (value_at m.name asked.fields)

abbrev pub fills_label : Asked → Member → Bool
fills_label asked m = has_label Host asked.host m || has_label Path asked.path m

-- the fault of a member that fills a label: it is absent or empty, which a time without a text isn't, or it fills
-- one of the host prefix and is no part of a host's name
abbrev pub label_fault : Asked → Member → Option EncodeFault
label_fault asked m =
    if bytes_eq (member_text asked.table.shapes asked.fields m) [] then
    (if is_lost_as asked form.Iso8601 m then None else Some (fault.EmptyLabel m.name))
    else if has_label Host asked.host m && not (is_label (member_text asked.table.shapes asked.fields m)) then Some (fault.BadHostLabel m.name)
    else None

-- beside a named payload a member without a location isn't sent
abbrev pub body_form : Option Member → Member → Option TimeForm
body_form None m = Some form.Unix
body_form (Some payload) m = if bytes_eq payload.name m.name then Some form.Unix else None

-- the form of times that is usual where a member is sent by `rest-json`, labels aside; none where it isn't sent
abbrev pub form_by_location : Option Member → Member → Option Location → Option TimeForm
form_by_location payload m (Some location.Querystring) = Some form.Iso8601
form_by_location payload m (Some location.Header) = if m.json_value then None else Some form.Rfc822
form_by_location payload m (Some location.Headers) = Some form.Rfc822
form_by_location payload m (Some location.Uri) = None
form_by_location payload m (Some location.StatusCode) = None
form_by_location payload m None = body_form payload m

abbrev pub usual_form : Asked → Member → Option TimeForm
usual_form asked m =
    if is_json asked.table.metadata.protocol then Some form.Unix
    else form_by_location (payload_at asked.table.shapes asked.op.input) m m.location

abbrev pub is_lost_by : Asked → Member → Option TimeForm → Bool
is_lost_by asked m None = false
is_lost_by asked m (Some usual) = is_lost_as asked usual m

-- a time of the member has no text where it is sent
abbrev pub is_lost_member : Asked → Member → Bool
is_lost_member asked m = (fills_label asked m && is_lost_as asked form.Iso8601 m) || is_lost_by asked m (usual_form asked m)

-- one of these headers can't stand behind those before it
abbrev pub are_bad : Fields → Fields → Bool
are_bad earlier [] = false
are_bad earlier (h ∷ hs) = is_bad_header earlier h || are_bad (earlier ++ h ∷ []) hs

abbrev pub given_headers : List Shape → Member → Option Typed → Fields
given_headers shapes m None = []
given_headers shapes m (Some v) = member_headers shapes m v

-- the headers of a member: `json` has none
abbrev pub headers_of : Asked → Member → Fields
headers_of asked m =
    if is_json asked.table.metadata.protocol then [] else given_headers asked.table.shapes m (value_at m.name asked.fields)

-- the first fault of a member but for its headers: of its label, then of its times
abbrev pub parts_fault : Asked → Member → Option EncodeFault
parts_fault asked m =
    option_or (if fills_label asked m then label_fault asked m else None)
    (if is_lost_member asked m then Some (fault.TimeOutOfRange m.name) else None)

-- headers of a member put behind these, if they can stand there
abbrev pub checked : Fields → Fields → List ℕ → Result Fields EncodeFault
checked earlier headers name = if are_bad earlier headers then Err (fault.BadHeaderText name) else Ok (earlier ++ headers)

-- the headers with those of a member behind them, or the member's first fault
abbrev pub with_member : Asked → Fields → Member → Result Fields EncodeFault
with_member asked hs m = elim (parts_fault asked m) [ None ↦ checked hs (headers_of asked m) m.name | Some f ↦ Err f ]

-- the headers with those of the members behind them, or the fault of the first member that has one
abbrev pub headers_from : Asked → Fields → List Member → Result Fields EncodeFault
headers_from asked hs [] = Ok hs
headers_from asked hs (m ∷ ms) = with_member asked hs m >>= (λ more. headers_from asked more ms)

-- want of memory is a free answer
abbrev pub is_memory : EncodeFault → Bool
is_memory fault.OutOfMemory = true
is_memory others = false
