-- What comes of the bytes that were received of a reply, however they came.
use Rattle.std.specs.Prelude.{◌≡◌, ℕ, ◌+◌, ◌<◌, ◌≤◌, ◌⊎◌, Bool, true, List, length, take, sum_by, Option, None, Some}
use Rattle.aws_world.specs.declared.link.LinkFault.{LinkFault}
use Rattle.aws_world.specs.declared.message.Reply.{Reply}
use Rattle.http_reply.specs.declared.outcome.Outcome.{Outcome}
use Rattle.http_reply.specs.declared.outcome.Outcome.TheVariants.{Whole, Lost, Cut, Malformed, TooLarge, OutOfMemory}
use Rattle.http_reply.specs.declared.limits.TheConstants.{HEAD_LIMIT, BODY_LIMIT, TOTAL_LIMIT}
use Rattle.http_reply.specs.Machine.{Phase, heads, fixed, lines, chunk, trailers, to_end, Decides, Awaits, with_more}

-- the bytes up to the limit of all
abbrev pub seen : List ℕ → List ℕ
seen received = take TOTAL_LIMIT received

-- some front of the bytes decides
abbrev pub HasVerdict : Bool → List ℕ → Outcome → Type 0
HasVerdict head_only received outcome = Decides head_only (heads 0) (seen received) outcome

-- no front of the bytes decides: this is due, and these are not yet taken
abbrev pub IsWaiting : Bool → List ℕ → Phase → List ℕ → Type 0
IsWaiting head_only received q rest =
    Awaits head_only (heads 0) received q rest × (length received ≤ TOTAL_LIMIT)

-- no front of the bytes decides
abbrev pub Waits : Bool → List ℕ → Type 0
Waits head_only received = (q : Phase) × (rest : List ℕ) × IsWaiting head_only received q rest

-- an end of the peer cuts the reply, since its body doesn't last until then
abbrev pub IsCutIn : Phase → Type 0
IsCutIn (to_end reply) = ⊥
IsCutIn (heads used) = Unit {0}
IsCutIn (fixed reply size) = Unit {0}
IsCutIn (lines reply used) = Unit {0}
IsCutIn (chunk reply used size) = Unit {0}
IsCutIn (trailers reply used) = Unit {0}

-- the peer ended, and without a fault
abbrev pub HasEnded : Bool → Option LinkFault → Type 0
HasEnded ended fault = (ended ≡ true) × (fault ≡ None)

-- the outcome of the bytes received, whether the peer ended, and the fault. OutOfMemory may come of all
abbrev pub IsOutcome : Bool → List ℕ → Bool → Option LinkFault → Outcome → Type 0
IsOutcome head_only received ended fault (Whole reply) =
    HasVerdict head_only received (Whole reply)
    ⊎ ((start : Reply) × (body : List ℕ) × IsWaiting head_only received (to_end start) body × HasEnded ended fault × (reply ≡ with_more start body))
IsOutcome head_only received ended fault Malformed = HasVerdict head_only received Malformed
IsOutcome head_only received ended fault TooLarge =
    HasVerdict head_only received TooLarge ⊎ (Waits head_only (seen received) × (TOTAL_LIMIT < length received))
IsOutcome head_only received ended fault (Lost kind) = Waits head_only received × (fault ≡ Some kind)
IsOutcome head_only received ended fault Cut =
    (q : Phase) × (rest : List ℕ) × IsWaiting head_only received q rest × IsCutIn q × HasEnded ended fault
IsOutcome head_only received ended fault OutOfMemory = Unit {0}

-- the names and values of the headers together, in characters
abbrev pub header_characters : Reply → ℕ
header_characters reply = sum_by (λ field. length field.0 + length field.1) reply.headers

-- the headers are within the limit of heads
abbrev pub HasSmallHead : Reply → Type 0
HasSmallHead reply = header_characters reply ≤ HEAD_LIMIT

-- a whole reply is within the limits
abbrev pub IsSmall : Outcome → Type 0
IsSmall (Whole reply) = HasSmallHead reply × (length reply.body ≤ BODY_LIMIT)
IsSmall (Lost kind) = Unit {0}
IsSmall Cut = Unit {0}
IsSmall Malformed = Unit {0}
IsSmall TooLarge = Unit {0}
IsSmall OutOfMemory = Unit {0}
