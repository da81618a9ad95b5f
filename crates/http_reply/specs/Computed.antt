-- The outcome of the bytes received, the peer's end and the fault, computed.
use Rattle.std.specs.Prelude.{◌≢◌, ℕ, zero, suc, ◌+◌, ◌≡◌, ◌⊎◌, ◌↔◌, Bool, true, false, ◌&&◌, List, length, take, drop, count_by, Option, None, Some, MatchOption, if◌then◌else◌, ◌==◌, nat_le, nat_lt}
use Rattle.httparse.specs.Ascii.{line_feed}
use Rattle.httparse.specs.Grammar.{ResponseHead, ChunkLine, chunk_size}
use Rattle.aws_world.specs.declared.link.LinkFault.{LinkFault}
use Rattle.http_reply.specs.declared.outcome.Outcome.{Outcome}
use Rattle.http_reply.specs.declared.outcome.Outcome.TheVariants.{Whole, Lost, Cut, Malformed, TooLarge, OutOfMemory}
use Rattle.http_reply.specs.declared.limits.TheConstants.{HEAD_LIMIT, LINE_LIMIT, CHUNK_LINE_LIMIT, TOTAL_LIMIT}
use Rattle.aws_world.specs.declared.message.Reply.{Reply}
use Rattle.http_reply.specs.Cuts.{head_end, line_end}
use Rattle.http_reply.specs.Kinds.{kind_of}
use Rattle.http_reply.specs.Machine.{Phase, heads, fixed, lines, chunk, trailers, to_end, Step, wait, move, decide, with_more, reply_of, after_head, after_line, fixed_step, chunk_step, trailer_step, to_end_step}
use Rattle.http_reply.specs.Outcome.{seen, Waits, IsOutcome}
use Rattle.http_reply.specs.Readers.{head_in, chunk_line_in}

-- the step after the bytes of a head, by the head that they are
abbrev pub head_judged : Bool → ℕ → ℕ → Option ResponseHead → Step
head_judged head_only used size None = decide Malformed
head_judged head_only used size (Some h) =
    after_head used size (reply_of h) (kind_of head_only (reply_of h).status (reply_of h).headers)

abbrev pub head_step : Bool → ℕ → List ℕ → Option ℕ → Step
head_step head_only used bytes None = if nat_le (used + length bytes) HEAD_LIMIT then wait else decide TooLarge
head_step head_only used bytes (Some n) =
    if nat_le (used + n) HEAD_LIMIT && nat_le (count_by (λ b. b == line_feed) (take n bytes)) LINE_LIMIT
    then head_judged head_only used (length (take n bytes)) (head_in (take n bytes))
    else decide TooLarge

-- the step after the bytes of a chunk line, by the line that they are
abbrev pub line_judged : Reply → ℕ → ℕ → Option ChunkLine → Step
line_judged reply used size None = decide Malformed
line_judged reply used size (Some l) = after_line reply used size (chunk_size l)

abbrev pub line_step : Reply → ℕ → List ℕ → Option ℕ → Step
line_step reply used bytes None = if nat_le (length bytes) CHUNK_LINE_LIMIT then wait else decide TooLarge
line_step reply used bytes (Some n) =
    if nat_le n CHUNK_LINE_LIMIT then line_judged reply used (length (take n bytes)) (chunk_line_in (take n bytes))
    else decide TooLarge

-- the step that a phase makes of the bytes
abbrev pub next_step : Bool → Phase → List ℕ → Step
next_step head_only (heads used) bytes = head_step head_only used bytes (head_end bytes)
next_step head_only (fixed reply size) bytes = fixed_step reply size bytes
next_step head_only (lines reply used) bytes = line_step reply used bytes (line_end bytes)
next_step head_only (chunk reply used size) bytes = chunk_step reply used size bytes
next_step head_only (trailers reply used) bytes = trailer_step reply used bytes (line_end bytes)
next_step head_only (to_end reply) bytes = to_end_step bytes

-- what bytes lead to: a phase that awaits more, with the bytes not yet taken, or a verdict
pub data End : Type 0 where
  awaiting : Phase → List ℕ → End
  decided : Outcome → End

abbrev pub after_step : Phase → List ℕ → (Phase → ℕ → End) → Step → End
after_step p bytes next wait = awaiting p bytes
after_step p bytes next (move q k) = next q k
after_step p bytes next (decide outcome) = decided outcome

-- step after step, fewer than so many
abbrev pub end_of : ℕ → Bool → Phase → List ℕ → End
end_of zero head_only p bytes = awaiting p bytes
end_of (suc n) head_only p bytes =
    after_step p bytes (λ q k. end_of n head_only q (drop k bytes)) (next_step head_only p bytes)

-- what the peer's end makes of a phase that awaits more
abbrev pub at_end : Phase → List ℕ → Outcome
at_end (to_end start) rest = Whole (with_more start rest)
at_end (heads used) rest = Cut
at_end (fixed reply size) rest = Cut
at_end (lines reply used) rest = Cut
at_end (chunk reply used size) rest = Cut
at_end (trailers reply used) rest = Cut

-- a fault, an end, or neither
abbrev pub when_awaiting : Phase → List ℕ → Bool → Option LinkFault → Option Outcome
when_awaiting p rest ended (Some fault) = Some (Lost fault)
when_awaiting p rest true None = Some (at_end p rest)
when_awaiting p rest false None = None

abbrev pub outcome_at : List ℕ → Bool → Option LinkFault → End → Option Outcome
outcome_at received ended fault (decided outcome) = Some outcome
outcome_at received ended fault (awaiting p rest) =
    if nat_lt TOTAL_LIMIT (length received) then Some TooLarge else when_awaiting p rest ended fault

-- the outcome; None where more is awaited. Each move takes a byte at least
unfoldable pub outcome_of : Bool → List ℕ → Bool → Option LinkFault → Option Outcome
outcome_of head_only received ended fault =
    outcome_at received ended fault (end_of (suc (length (seen received))) head_only (heads 0) (seen received))

-- there is an outcome other than want of memory, or the bytes decide nothing and the peer goes on
abbrev pub OutcomeIsThere : Type 0
OutcomeIsThere =
    (head_only : Bool) (received : List ℕ) (ended : Bool) (fault : Option LinkFault)
    → MatchOption (outcome_of head_only received ended fault)
    (Waits head_only received × (ended ≡ false) × (fault ≡ None))
    (λ outcome. IsOutcome head_only received ended fault outcome × (outcome ≢ OutOfMemory))

-- what is computed is the outcome, but for want of memory
abbrev pub OutcomeIsComputed : Type 0
OutcomeIsComputed =
    (head_only : Bool) (received : List ℕ) (ended : Bool) (fault : Option LinkFault) (outcome : Outcome)
    → IsOutcome head_only received ended fault outcome
    ↔ ((outcome ≡ OutOfMemory) ⊎ (outcome_of head_only received ended fault ≡ Some outcome))
