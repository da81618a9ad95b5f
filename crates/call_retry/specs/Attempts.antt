-- One attempt of a call: what it read, and what came of it.
use Rattle.std.specs.Prelude.{◌≡◌, ◌⊎◌, ℕ, ◌-◌, ◌==◌, ℤ, Bool, if◌then◌else◌, List, Option, None, Some, Result, Ok, Err, bytes_eq, codes}
use Rattle.aws_world.specs.declared.message.Message.{Message}
use Rattle.aws_world.specs.declared.message.Target.{Target}
use Rattle.endpoint_rules.specs.declared.endpoint.Endpoint.{Endpoint}
use Rattle.http_exchange.specs.Exchanges.{Exchanged}
use Rattle.http_exchange.specs.Wire.{wire_of}
use Rattle.http_reply.specs.declared.outcome.Outcome.{Outcome}
use Rattle.http_reply.specs.declared.outcome.Outcome.TheVariants as outcome
use Rattle.json_doc.specs.declared.doc.Doc.{Doc}
use Rattle.resp_parser.specs.Parsed.{IsParsed}
use Rattle.resp_parser.specs.Steps.{Comes}
use Rattle.resp_parser.specs.declared.fault.ReplyFault.{ReplyFault}
use Rattle.resp_parser.specs.declared.fault.ReplyFault.TheVariants as fault
use Rattle.service_model.specs.declared.model.Table.{Table}
use Rattle.service_model.specs.declared.operation.Operation.{Operation}
use Rattle.sigv4.specs.Moment.{IsMoment}
use Rattle.sigv4.specs.Signature.{IsSigned}
use Rattle.sigv4.specs.declared.signer.Signer.{Signer}
use Rattle.call_retry.specs.declared.call_end.CallEnd.{CallEnd}
use Rattle.call_retry.specs.declared.call_end.CallEnd.TheVariants as end

-- what a caller asks, whom and how: the operation of a model, the endpoint in the message, where connections go,
-- who signs, and the most attempts of a call
pub record Order : Type 0 where
  pub table : Table
  pub op : Operation
  pub endpoint : Endpoint
  pub target : Target
  pub signer : Option Signer
  pub limit : ℕ

-- replies to the method HEAD have no body (RFC 9110, section 9.3.2)
abbrev pub is_head_only : Order → Bool
is_head_only order = bytes_eq order.op.method (codes "HEAD")

-- an attempt: the moment of its signature, where it is signed; its request with the outcome, where it came to an
-- exchange; the word of the retry that follows, where one does
pub record Attempt : Type 0 where
  pub moment : Option ℤ
  pub exchange : Option Exchanged
  pub word : Option ℕ

-- the bytes of a message that is sent unsigned, or signed at a moment within range
abbrev pub IsRequest : Option Signer → Message → Option ℤ → List ℕ → Type 0
IsRequest None message None request = request ≡ wire_of message
IsRequest (Some signer) message (Some now) request =
    IsMoment now × ((signed : Message) × IsSigned message signer now signed × (request ≡ wire_of signed))
IsRequest None message (Some now) request = ⊥
IsRequest (Some signer) message None request = ⊥

-- no request was made: there is no signature for the moment, or memory ran out
abbrev pub IsUnsent : Option Signer → Option ℤ → CallEnd → Type 0
IsUnsent None None came = came ≡ end.OutOfMemory
IsUnsent (Some signer) (Some now) came = (came ≡ end.OutOfMemory) ⊎ ((came ≡ end.BadClock now) × ¬ IsMoment now)
IsUnsent None (Some now) came = ⊥
IsUnsent (Some signer) None came = ⊥

-- what the reading of a reply of this status comes to
abbrev pub read_as : ℕ → Result Doc ReplyFault → CallEnd
read_as status (Ok doc) = end.Answer doc status
read_as status (Err (fault.Service e)) = end.Service e
read_as status (Err (fault.BadBody path)) = end.BadReply path
read_as status (Err fault.Compressed) = end.Compressed
read_as status (Err fault.OutOfMemory) = end.OutOfMemory

-- what an outcome comes to; memory may run out where a reply is read
abbrev pub ComesTo : Order → Outcome → CallEnd → Type 0
ComesTo order (outcome.Whole reply) came =
    (answer : Result Doc ReplyFault) × Comes fault.OutOfMemory (IsParsed order.table order.op reply) answer × (came ≡ read_as reply.status answer)
ComesTo order (outcome.Lost kind) came = came ≡ end.Lost kind
ComesTo order outcome.Cut came = came ≡ end.Cut
ComesTo order outcome.Malformed came = came ≡ end.Malformed
ComesTo order outcome.TooLarge came = came ≡ end.TooLarge
ComesTo order outcome.OutOfMemory came = came ≡ end.OutOfMemory

-- what an attempt with this exchange comes to
abbrev pub ComesOf : Order → Message → Option ℤ → Option Exchanged → CallEnd → Type 0
ComesOf order message moment None came = IsUnsent order.signer moment came
ComesOf order message moment (Some x) came = IsRequest order.signer message moment x.request × ComesTo order x.outcome came

-- an attempt to send a message, and what it comes to
abbrev pub IsAttempt : Order → Message → Attempt → CallEnd → Type 0
IsAttempt order message a came = ComesOf order message a.moment a.exchange came

-- the answer of a call whose last attempt has this number: an error of the service tells of the retries where no
-- more attempts were allowed
abbrev pub told_after : ℕ → ℕ → CallEnd → CallEnd
told_after limit number (end.Service e) =
    end.Service (record e { retries = if number == limit then Some (limit - 1) else None })
told_after limit number others = others
