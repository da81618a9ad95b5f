-- The course of a command, from its words to its output.
use Rattle.std.specs.Prelude.{◌≡◌, ◌⊎◌, ℕ, false, List, ◌++◌, Option, Some, Result, Ok, Err, encode_utf8_all}
use Rattle.aws_world.specs.declared.connection.Connection.{Connection}
use Rattle.http_reply.specs.declared.outcome.Outcome.{Outcome}
use Rattle.http_reply.specs.declared.outcome.Outcome.TheVariants.{Whole, Lost, Cut, Malformed, TooLarge, OutOfMemory as outcome_no_memory}
use Rattle.http_exchange.specs.Exchange.{AddsExchange}
use Rattle.aws_world.specs.declared.message.Reply.{Reply}
use Rattle.aws_main.specs.declared.asking.Asked.{Asked}
use Rattle.aws_main.specs.declared.causes.Cause.{Cause}
use Rattle.aws_main.specs.declared.causes.Cause.TheVariants.{Done, OutFault, OutOfMemory}
use Rattle.aws_main.specs.declared.causes.Unread.{Unread}
use Rattle.aws_main.specs.declared.causes.Unread.TheVariants.{FileFault as read_fault, OutOfMemory as read_no_memory}
use Rattle.aws_main.specs.declared.causes.Unanswered.{Unanswered}
use Rattle.aws_main.specs.declared.causes.Unanswered.TheVariants.{NotBuilt, Lost as link_lost, OutOfMemory as no_memory}
use Rattle.aws_main.specs.declared.plain_operations.PlainOperation.{PlainOperation}
use Rattle.aws_main.specs.declared.planning.Planned.{Planned}
use Rattle.aws_main.specs.Causes.{cause_of_unread, cause_of_unanswered, GainsFront}
use Rattle.aws_main.specs.Due.{IsDue}
use Rattle.aws_main.specs.Output.{IsOutput}
use Rattle.aws_main.specs.Words.{asked_of}
use Rattle.model_store.specs.Folders.{Held, folders_of}
use Rattle.model_store.specs.Versions.{IsLookedAt}

-- a request is due of these words, environment and files
abbrev pub IsPlanned : List (List ℕ) → Held → Option Held → Planned → Type 0
IsPlanned words env held planned = IsDue words env held (Ok planned)

-- the path is one at which a line's files are looked for
abbrev pub IsNamedPath : List (List ℕ) → Held → Option Held → List ℕ → Type 0
IsNamedPath words env held path = (asked : Asked) × (asked_of words ≡ Some asked) × IsLookedAt (folders_of env) held asked.service path

-- Why no request was made: what is due is this refusal, or a file could not be read at a path that
-- was looked at. Want of memory is free.
abbrev pub IsRefusal : List (List ℕ) → Held → Option Held → Unread → Type 0
IsRefusal words env held (read_fault path) = IsNamedPath words env held path
IsRefusal words env held read_no_memory = Unit {0}
IsRefusal words env held refusal = IsDue words env held (Err refusal)

-- the answer to a whole reply: the text that is due, or NotBuilt where none is
abbrev pub IsShown : PlainOperation → Reply → Result (List ℕ) Unanswered → Type 0
IsShown operation reply (Ok text) = IsOutput operation reply text
IsShown operation reply (Err NotBuilt) = (text : List ℕ) → IsOutput operation reply text → ⊥
IsShown operation reply (Err (link_lost fault)) = ⊥
IsShown operation reply (Err no_memory) = Unit {0}

-- the answer to what came of an exchange
abbrev pub IsAnswer : PlainOperation → Outcome → Result (List ℕ) Unanswered → Type 0
IsAnswer operation (Whole reply) answer = IsShown operation reply answer
IsAnswer operation (Lost fault) answer = answer ≡ Err (link_lost fault)
IsAnswer operation Cut answer = answer ≡ Err NotBuilt
IsAnswer operation Malformed answer = answer ≡ Err NotBuilt
IsAnswer operation TooLarge answer = answer ≡ Err NotBuilt
IsAnswer operation outcome_no_memory answer = answer ≡ Err no_memory

-- how far a command came: it made no request, or it had an outcome of its request and an answer to that
pub data Course : Type 0 where
  refused : Unread → Course
  answered : Planned → Outcome → Result (List ℕ) Unanswered → Course

-- it is the course of these words, environment and files
abbrev pub IsCourse : List (List ℕ) → Held → Option Held → Course → Type 0
IsCourse words env held (refused e) = IsRefusal words env held e
IsCourse words env held (answered planned outcome answer) = IsPlanned words env held planned × IsAnswer planned.operation outcome answer

-- the connections of a course: none, or one more, which is the exchange of its request
abbrev pub Connects : Course → List Connection → List Connection → Type 0
Connects (refused e) before after = after ≡ before
Connects (answered planned outcome answer) before after = AddsExchange planned.asked.target planned.request false outcome before after

-- what ends a course
abbrev pub EndsIn : Course → Cause → Type 0
EndsIn (refused e) cause = cause ≡ cause_of_unread e
EndsIn (answered planned outcome (Err e)) cause = cause ≡ cause_of_unanswered e
EndsIn (answered planned outcome (Ok text)) cause = (cause ≡ Done) ⊎ (cause ≡ OutFault)

-- what a course prints: its text where all of the work was done, a front of it where the sink
-- failed, and else nothing
abbrev pub Prints : Course → Cause → List ℕ → List ℕ → Type 0
Prints (answered planned outcome (Ok text)) Done before after = after ≡ before ++ encode_utf8_all text
Prints (answered planned outcome (Ok text)) OutFault before after = GainsFront (encode_utf8_all text) before after
Prints course cause before after = after ≡ before

-- a text is due for an outcome; where memory ran out, nothing is known
abbrev pub HasText : PlainOperation → Outcome → Type 0
HasText operation (Whole reply) = (text : List ℕ) × IsOutput operation reply text
HasText operation outcome_no_memory = Unit {0}
HasText operation _ = ⊥

-- for whatever came of the request's exchange a text is due
abbrev pub IsAnswered : Planned → List Connection → List Connection → Type 0
IsAnswered planned before after =
    (outcome : Outcome) → AddsExchange planned.asked.target planned.request false outcome before after → HasText planned.operation outcome

-- nothing keeps a command from its end: a request is due, and for what came of it a text
abbrev pub IsUnhindered : List (List ℕ) → Held → Option Held → List Connection → List Connection → Type 0
IsUnhindered words env held before after = (planned : Planned) × IsPlanned words env held planned × IsAnswered planned before after

abbrev pub IsDoneUnlessMemory : Cause → Type 0
IsDoneUnlessMemory cause = (cause ≡ Done) ⊎ (cause ≡ OutOfMemory)
