-- What a reader of replies keeps between two pieces. The states that it names are private, and so are the
-- contracts that cite them, but for those of `ReplyReader`, which is in one of these states.
use Rattle.std.specs.Prelude.{◌≡◌, ℕ, ◌+◌, ◌≤◌, Bool, List, [], length, take, drop, option_map}
use Rattle.aws_world.specs.declared.message.Reply.{Reply}
use Rattle.http_reply.specs.declared.outcome.Outcome.TheVariants.{Whole, Malformed, TooLarge}
use Rattle.http_reply.specs.declared.steps.Due.{Due}
use Rattle.http_reply.specs.declared.steps.Due.TheVariants.{Heads, Fixed, Lines, Chunk, Trailers, ToEnd}
use Rattle.http_reply.specs.declared.steps.Stepped.{Stepped}
use Rattle.http_reply.specs.declared.steps.Stepped.TheVariants as stepped
use Rattle.http_reply.specs.declared.steps.ChunkEnd.{ChunkEnd}
use Rattle.http_reply.specs.declared.steps.ChunkEnd.TheVariants.{Awaited, There, Missing}
use Rattle.http_reply.specs.declared.reader.Reached.{Reached}
use Rattle.http_reply.specs.declared.reader.Reached.TheVariants as reached
use Rattle.http_reply.specs.Cuts.{head_end, line_end}
use Rattle.http_reply.specs.Machine.{Phase, heads, fixed, lines, chunk, trailers, to_end, Step, wait, move, decide, with_more, Decides, Awaits}
use Rattle.http_reply.specs.Outcome.{HasSmallHead, IsSmall}
use Rattle.http_reply.specs.declared.limits.TheConstants.{HEAD_LIMIT, BODY_LIMIT}

-- the phase that is due, of the reply so far
abbrev pub phase_of : Due → Reply → Phase
phase_of (Heads used) reply = heads used
phase_of (Fixed size) reply = fixed reply size
phase_of (Lines used) reply = lines reply used
phase_of (Chunk used size) reply = chunk reply used size
phase_of (Trailers used) reply = trailers reply used
phase_of ToEnd reply = to_end reply

-- the reply so far has no body yet
abbrev pub HasNoBody : Reply → Type 0
HasNoBody reply = reply.body ≡ []

-- what is due keeps the limits
abbrev pub Fits : Due → Reply → Type 0
Fits (Heads used) reply = HasSmallHead reply × HasNoBody reply × (used ≤ HEAD_LIMIT)
Fits (Fixed size) reply = HasSmallHead reply × HasNoBody reply × (size ≤ BODY_LIMIT)
Fits (Lines used) reply = HasSmallHead reply × (length reply.body ≤ BODY_LIMIT) × (used ≤ HEAD_LIMIT)
Fits (Chunk used size) reply = HasSmallHead reply × (length reply.body + size ≤ BODY_LIMIT) × (used ≤ HEAD_LIMIT)
Fits (Trailers used) reply = HasSmallHead reply × (length reply.body ≤ BODY_LIMIT) × (used ≤ HEAD_LIMIT)
Fits ToEnd reply = HasSmallHead reply × HasNoBody reply

-- the end that is due lies at no place before this one
abbrev pub IsScanned : Due → List ℕ → ℕ → Type 0
IsScanned (Heads used) bytes from = head_end bytes ≡ option_map (λ n. n + from) (head_end (drop from bytes))
IsScanned (Fixed size) bytes from = Unit {0}
IsScanned (Lines used) bytes from = line_end bytes ≡ option_map (λ n. n + from) (line_end (drop from bytes))
IsScanned (Chunk used size) bytes from = Unit {0}
IsScanned (Trailers used) bytes from = line_end bytes ≡ option_map (λ n. n + from) (line_end (drop from bytes))
IsScanned ToEnd bytes from = Unit {0}

-- the step that an answer tells, of the reply after it and the bytes that were there
abbrev pub step_of : Reply → List ℕ → Stepped → Step
step_of reply bytes stepped.Waits = wait
step_of reply bytes (stepped.Moves due taken) = move (phase_of due reply) taken
step_of reply bytes stepped.Whole = decide (Whole reply)
step_of reply bytes (stepped.WholeWith size) = decide (Whole (with_more reply (take size bytes)))
step_of reply bytes stepped.Malformed = decide Malformed
step_of reply bytes stepped.TooLarge = decide TooLarge

-- after the step the limits are kept, and the reply is the old one where it waits
abbrev pub StepFits : Reply → Reply → List ℕ → Stepped → Type 0
StepFits before after bytes stepped.Waits = after ≡ before
StepFits before after bytes (stepped.Moves due taken) = Fits due after
StepFits before after bytes stepped.Whole = IsSmall (Whole after)
StepFits before after bytes (stepped.WholeWith size) = HasSmallHead after × HasNoBody after × (size ≤ length bytes) × (size ≤ BODY_LIMIT)
StepFits before after bytes stepped.Malformed = Unit {0}
StepFits before after bytes stepped.TooLarge = Unit {0}

-- the step at a chunk's end
abbrev pub by_chunk_end : Step → ChunkEnd → Step
by_chunk_end next Awaited = wait
by_chunk_end next There = next
by_chunk_end next Missing = decide Malformed

-- what bytes made of the reply, from a phase on
abbrev pub Reaches : Bool → Phase → List ℕ → Reply → Reached → Type 0
Reaches head_only p bytes reply (reached.Waits due at) =
    Awaits head_only p bytes (phase_of due reply) (drop at bytes) × Fits due reply × (at ≤ length bytes)
Reaches head_only p bytes reply reached.Whole = Decides head_only p bytes (Whole reply) × IsSmall (Whole reply)
Reaches head_only p bytes reply (reached.WholeWith at size) =
    Decides head_only p bytes (Whole (with_more reply (take size (drop at bytes))))
    × (HasSmallHead reply × HasNoBody reply × (at + size ≤ length bytes) × (size ≤ BODY_LIMIT))
Reaches head_only p bytes reply reached.Malformed = Decides head_only p bytes Malformed
Reaches head_only p bytes reply reached.TooLarge = Decides head_only p bytes TooLarge
