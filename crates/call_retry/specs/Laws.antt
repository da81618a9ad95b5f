-- What holds of all calls.
use Rattle.std.specs.Prelude.{◌≡◌, ◌⊎◌, ℕ, ◌≤◌, ℤ, List, ◌++◌, length, All, Option, None, Some, true, Ok}
use Rattle.aws_world.specs.declared.connection.Connection.{Connection}
use Rattle.aws_world.specs.declared.message.Message.{Message}
use Rattle.endpoint_rules.specs.declared.endpoint.Endpoint.{Endpoint}
use Rattle.service_model.specs.declared.model.Table.{Table}
use Rattle.service_model.specs.declared.operation.Operation.{Operation}
use Rattle.std.specs.List.{list_all}
use Rattle.uri_texts.specs.Visible.{is_visible}
use Rattle.http_exchange.specs.ReadBack.{ReadsBack, is_clean_header}
use Rattle.serializer.specs.HeaderNames.{is_token}
use Rattle.serializer.specs.Laws.{IsRooted, has_clean_texts}
use Rattle.http_exchange.specs.Exchanges.{Exchanged}
use Rattle.http_reply.specs.declared.outcome.Outcome.{Outcome}
use Rattle.resp_parser.specs.declared.fault.ServiceError.{ServiceError}
use Rattle.serializer.specs.Messages.{encoded}
use Rattle.typed_value.specs.declared.typed.Typed.{Typed}
use Rattle.call_retry.specs.Attempts.{Order, Attempt, ComesTo, IsRequest}
use Rattle.call_retry.specs.Calls.{AddsConnections, IsCall, exchanges_of, pauses_of}
use Rattle.call_retry.specs.Classes.{class_at, class_of}
use Rattle.call_retry.specs.declared.call_end.CallEnd.{CallEnd}
use Rattle.call_retry.specs.declared.call_end.CallEnd.TheVariants as end

-- a call leaves the connections so far, and adds no more than its limit
abbrev pub CallsAreBounded : Type 0
CallsAreBounded =
    (order : Order) (value : Typed) (quota : ℕ) (attempts : List Attempt) (how : CallEnd) (now : ℕ) (before after : List Connection)
    → 1 ≤ order.limit → IsCall order value quota attempts how now → AddsConnections order attempts before after
    → (cs : List Connection) × (after ≡ before ++ cs) × (length cs ≤ order.limit)

-- it is the request of the message, unsigned or signed at some moment
abbrev pub IsRequestOf : Order → Message → Exchanged → Type 0
IsRequestOf order message x = (moment : Option ℤ) × IsRequest order.signer message moment x.request

-- every attempt sends the one message of the value
abbrev pub MessageIsOne : Type 0
MessageIsOne =
    (order : Order) (value : Typed) (quota : ℕ) (attempts : List Attempt) (how : CallEnd) (now : ℕ) (message : Message)
    → encoded order.table order.op value order.endpoint ≡ Ok message → IsCall order value quota attempts how now
    → All (IsRequestOf order message) (exchanges_of attempts)

-- no pause is longer than 20 seconds
abbrev pub PausesAreShort : Type 0
PausesAreShort = (attempts : List Attempt) → All (λ pause. pause ≤ 20000) (pauses_of attempts)

-- the quota stays between 0 and 500
abbrev pub QuotaStays : Type 0
QuotaStays =
    (order : Order) (value : Typed) (quota : ℕ) (attempts : List Attempt) (how : CallEnd) (now : ℕ)
    → quota ≤ 500 → IsCall order value quota attempts how now → now ≤ 500

-- two ends are one, unless memory ran out
abbrev pub IsOneEnd : CallEnd → ℕ → CallEnd → ℕ → Type 0
IsOneEnd how now other left =
    (how ≡ end.OutOfMemory) ⊎ ((other ≡ end.OutOfMemory) ⊎ ((how ≡ other) × (now ≡ left)))

-- the same attempts end alike
abbrev pub CallsEndAlike : Type 0
CallsEndAlike =
    (order : Order) (value : Typed) (quota : ℕ) (attempts : List Attempt) (how other : CallEnd) (now left : ℕ)
    → IsCall order value quota attempts how now → IsCall order value quota attempts other left
    → IsOneEnd how now other left

-- the error that an attempt came to
abbrev pub error_in : CallEnd → Option ServiceError
error_in (end.Service e) = Some e
error_in others = None

-- the reply could be read, if there was one
abbrev pub IsRead : CallEnd → Type 0
IsRead (end.BadReply path) = ⊥
IsRead end.Compressed = ⊥
IsRead end.OutOfMemory = ⊥
IsRead others = Unit {0}

-- the class of an attempt is that of its outcome with its error; a reply that can't be read is final
abbrev pub ClassesAgree : Type 0
ClassesAgree =
    (order : Order) (outcome : Outcome) (came : CallEnd) → ComesTo order outcome came → IsRead came
    → class_at came ≡ class_of outcome (error_in came)

-- what a model and an endpoint themselves give to a request: a token as its method, a URI of visible ASCII that begins
-- with a slash, a path of visible ASCII, and no control character in what goes into headers
pub record IsSound (table : Table) (op : Operation) (e : Endpoint) : Type 0 where
  pub method : is_token op.method ≡ true
  pub uri : list_all is_visible op.uri ≡ true
  pub rooted : IsRooted op.uri
  pub path : list_all is_visible e.path ≡ true
  pub texts : has_clean_texts table op e ≡ true

abbrev pub with_headers : Message → List (List ℕ × List ℕ) → Message
with_headers m more = record m { headers = m.headers ++ more }

-- whatever the value is, the bytes of its message, also with other clean headers behind its own, are read as this
-- message and as nothing else
abbrev pub MessagesReadBack : Type 0
MessagesReadBack =
    (table : Table) (op : Operation) (value : Typed) (e : Endpoint) (m : Message) (more : List (List ℕ × List ℕ))
    → IsSound table op e → encoded table op value e ≡ Ok m → list_all is_clean_header more ≡ true → ReadsBack (with_headers m more)
