-- What the laws say.
use Rattle.std.specs.Prelude.{◌≡◌, ℕ, ◌<◌, ◌⊎◌, ◌&&◌, Bool, true, false, not, nat_eq, List, [], ◌∷◌, ◌++◌, length, flat_map, unwrap_or, Ok, Err, codes}
use Rattle.std.specs.List.{list_all}
use Rattle.aws_world.specs.declared.message.Message.{Message}
use Rattle.endpoint_rules.specs.declared.endpoint.Endpoint.{Endpoint}
use Rattle.service_model.specs.declared.model.Table.{Table}
use Rattle.service_model.specs.declared.operation.Operation.{Operation}
use Rattle.texts.specs.Cut.{is_among}
use Rattle.typed_value.specs.declared.typed.Typed.{Typed}
use Rattle.uri_texts.specs.declared.templates.Piece.{Piece}
use Rattle.uri_texts.specs.declared.templates.Piece.TheVariants.{Plain, Label}
use Rattle.uri_texts.specs.Visible.{is_visible}
use Rattle.serializer.specs.declared.encode_fault.EncodeFault.{EncodeFault}
use Rattle.serializer.specs.declared.encode_fault.EncodeFault.TheVariants.{EmptyLabel, BadHostLabel, TimeOutOfRange, BadHeaderText}
use Rattle.serializer.specs.Faults.{Fields}
use Rattle.serializer.specs.HeaderNames.{is_header_byte, is_token, is_of_sending}
use Rattle.serializer.specs.Members.{is_json}
use Rattle.serializer.specs.Messages.{base_path, encoded, path_pieces}

-- it is a fault of the member of this name
abbrev pub IsFaultOf : List ℕ → EncodeFault → Type 0
IsFaultOf name fault =
    (fault ≡ EmptyLabel name) ⊎ ((fault ≡ BadHostLabel name) ⊎ ((fault ≡ TimeOutOfRange name) ⊎ (fault ≡ BadHeaderText name)))

-- a value gives one message, or one fault that names a member
abbrev pub ValuesHaveOutcome : Type 0
ValuesHaveOutcome = (table : Table) (op : Operation) (value : Typed) (e : Endpoint)
    → ((m : Message) × (encoded table op value e ≡ Ok m))
    ⊎ ((name : List ℕ) × (fault : EncodeFault) × IsFaultOf name fault × (encoded table op value e ≡ Err fault))

-- no control character of ASCII stands in it
abbrev pub is_clean : List ℕ → Bool
is_clean text = list_all is_header_byte text

-- nor in the names and values of headers
abbrev pub are_clean : Fields → Bool
are_clean headers = list_all (λ h. is_clean h.0 && is_clean h.1) headers

-- nor in what a model and an endpoint themselves give to headers
abbrev pub has_clean_texts : Table → Operation → Endpoint → Bool
has_clean_texts table op e =
    is_clean op.name && is_clean table.metadata.target_prefix && is_clean table.metadata.json_version && is_clean e.host
    && is_clean (unwrap_or op.host_prefix [])

-- whatever the value is, no control character comes into the headers of its message
abbrev pub HeadersAreClean : Type 0
HeadersAreClean = (table : Table) (op : Operation) (value : Typed) (e : Endpoint) (m : Message)
    → has_clean_texts table op e ≡ true → encoded table op value e ≡ Ok m → are_clean m.headers ≡ true

-- a token for its name, and none that sending writes
abbrev pub is_named : List ℕ × List ℕ → Bool
is_named h = is_token h.0 && not (is_of_sending h.0)

abbrev pub are_named : Fields → Bool
are_named headers = list_all is_named headers

-- whatever the value, the model and the endpoint are, no header's name is other than that
abbrev pub HeadersAreNamed : Type 0
HeadersAreNamed = (table : Table) (op : Operation) (value : Typed) (e : Endpoint) (m : Message) → encoded table op value e ≡ Ok m → are_named m.headers ≡ true

-- marks of a URI: what stands between them is in its place where it has none of them
abbrev pub marks_around : Bool → List ℕ
marks_around true = codes "?#&="
marks_around false = codes "?#&=/"

-- a `/` may stand in what fills a greedy label
abbrev pub stays_in_place : Bool → ℕ → Bool
stays_in_place is_greedy c = not (is_among (marks_around is_greedy) c)

-- a text stands where a template has a piece
abbrev pub StandsIn : List ℕ → Piece → Type 0
StandsIn text (Plain own) = text ≡ own
StandsIn text (Label name is_greedy) = list_all (stays_in_place is_greedy) text ≡ true

-- the endpoint's path, and behind it the template's pieces, each filled with what stays in its place
abbrev pub IsFilledPath : Endpoint → List Piece → List ℕ → Type 0
IsFilledPath e template path =
    (fill : Piece → List ℕ) × (((p : Piece) → StandsIn (fill p) p) × (path ≡ base_path e.path ++ flat_map fill template))

-- whatever the value is, what fills a label of the path stays in its place
abbrev pub LabelsStayInPlace : Type 0
LabelsStayInPlace = (table : Table) (op : Operation) (value : Typed) (e : Endpoint) (m : Message)
    → encoded table op value e ≡ Ok m → IsFilledPath e (path_pieces (is_json table.metadata.protocol) op.uri) m.path

abbrev pub is_in_path : ℕ → Bool
is_in_path c = not (nat_eq c 63)

-- no query begins in a path where none begins in the endpoint's
abbrev pub PathsHaveNoQuery : Type 0
PathsHaveNoQuery = (table : Table) (op : Operation) (value : Typed) (e : Endpoint) (m : Message)
    → list_all is_in_path e.path ≡ true → encoded table op value e ≡ Ok m → list_all is_in_path m.path ≡ true

abbrev pub is_in_place : List ℕ × List ℕ → Bool
is_in_place parameter = list_all (stays_in_place false) parameter.0 && list_all (stays_in_place false) parameter.1

abbrev pub stay_in_place : Fields → Bool
stay_in_place parameters = list_all is_in_place parameters

-- no such mark stands in the name or the value of a parameter, whatever the value is
abbrev pub ParametersStayInPlace : Type 0
ParametersStayInPlace = (table : Table) (op : Operation) (value : Typed) (e : Endpoint) (m : Message)
    → encoded table op value e ≡ Ok m → stay_in_place m.query ≡ true

-- path and query are visible ASCII
pub record IsVisibleTarget (m : Message) : Type 0 where
  pub path : list_all is_visible m.path ≡ true
  pub query : list_all (λ p. list_all is_visible p.0 && list_all is_visible p.1) m.query ≡ true

-- whatever the value is, path and query of its message are that, if the operation's URI and the endpoint's path are
abbrev pub TargetsAreVisible : Type 0
TargetsAreVisible = (table : Table) (op : Operation) (value : Typed) (e : Endpoint) (m : Message)
    → list_all is_visible op.uri ≡ true → list_all is_visible e.path ≡ true → encoded table op value e ≡ Ok m → IsVisibleTarget m

-- it begins with a slash
abbrev pub IsRooted : List ℕ → Type 0
IsRooted text = (rest : List ℕ) × (text ≡ 47 ∷ rest)

-- no path is empty, if the operation's URI begins with a slash
abbrev pub PathsAreThere : Type 0
PathsAreThere = (table : Table) (op : Operation) (value : Typed) (e : Endpoint) (m : Message)
    → IsRooted op.uri → encoded table op value e ≡ Ok m → 0 < length m.path
