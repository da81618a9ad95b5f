-- What a reader of a reply has received, and what it answers.
use Rattle.std.specs.Prelude.{◌≡◌, ℕ, Bool, false, List, length, Option, None, Some}
use Rattle.http_reply.specs.declared.outcome.Outcome.{Outcome}
use Rattle.http_reply.specs.declared.reader.ReplyReader.{ReplyReader}
use Rattle.http_reply.specs.Outcome.{IsWaiting, IsOutcome}
use Rattle.http_reply.specs.Reading.{phase_of, Fits}

-- the reader has taken in these bytes of a reply, which decide nothing yet
pub record WaitsAfter (head_only : Bool) (received : List ℕ) (reader : ReplyReader) : Type 0 where
  pub method : reader.head_only ≡ head_only
  pub counted : reader.count ≡ length received
  pub fits : Fits reader.due reader.reply
  pub waiting : IsWaiting head_only received (phase_of reader.due reader.reply) reader.rest.items

-- the reader has taken in some bytes, which decide nothing yet
abbrev pub IsReading : ReplyReader → Type 0
IsReading reader = (head_only : Bool) × (received : List ℕ) × WaitsAfter head_only received reader

-- after these bytes the reader waits, or answers what they decide
abbrev pub WaitsOrAnswers : Bool → List ℕ → ReplyReader → Option Outcome → Type 0
WaitsOrAnswers head_only received reader None = WaitsAfter head_only received reader
WaitsOrAnswers head_only received reader (Some outcome) = IsOutcome head_only received false None outcome
