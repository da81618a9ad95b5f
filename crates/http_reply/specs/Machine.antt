-- How the bytes of a reply are taken, unit by unit: heads, chunk lines, chunks, trailer lines and
-- bodies (RFC 9112, sections 2.1, 6.3 and 7.1).
use Rattle.std.specs.Prelude.{◌≡◌, ℕ, zero, suc, ◌+◌, ◌≤◌, ◌⊎◌, Bool, ◌&&◌, List, [], ◌∷◌, ◌++◌, length, take, drop, map, count_by, Option, None, Some, is_some, MatchBool, if◌then◌else◌, ◌==◌, nat_le}
use Rattle.httparse.specs.Ascii.{line_feed, carriage_return}
use Rattle.httparse.specs.Grammar.{ResponseHead, ReadsResponse, status_code, ChunkLine, ReadsChunkLine, chunk_size}
use Rattle.httparse.specs.Spans.{name_and_value}
use Rattle.aws_world.specs.declared.message.Reply.{Reply}
use Rattle.http_reply.specs.declared.kinds.Kind.{Kind}
use Rattle.http_reply.specs.declared.kinds.Kind.TheVariants.{Interim, NoBody, Chunked, Fixed, ToEnd, Malformed as Bad, TooLarge as Big}
use Rattle.http_reply.specs.declared.outcome.Outcome.{Outcome}
use Rattle.http_reply.specs.declared.outcome.Outcome.TheVariants.{Whole, Malformed, TooLarge}
use Rattle.http_reply.specs.declared.limits.TheConstants.{HEAD_LIMIT, LINE_LIMIT, FIELD_LIMIT, CHUNK_LINE_LIMIT, BODY_LIMIT}
use Rattle.http_reply.specs.Cuts.{empty_line, head_end, line_end}
use Rattle.http_reply.specs.Kinds.{kind_of}

-- what is due next. A reply has the body that the chunks so far gave; `used` counts the bytes of the
-- heads and trailers so far
pub data Phase : Type 0 where
  heads : (used : ℕ) → Phase
  fixed : (reply : Reply) (size : ℕ) → Phase
  lines : (reply : Reply) (used : ℕ) → Phase
  chunk : (reply : Reply) (used size : ℕ) → Phase
  trailers : (reply : Reply) (used : ℕ) → Phase
  to_end : (reply : Reply) → Phase

-- what the bytes that are not yet taken lead to: more are awaited, the first of them are taken and
-- another phase follows, or they decide
pub data Step : Type 0 where
  wait : Step
  move : Phase → ℕ → Step
  decide : Outcome → Step

-- the reply with more bytes at the end of its body
abbrev pub with_more : Reply → List ℕ → Reply
with_more reply bytes = record reply { body = reply.body ++ bytes }

-- the reply of a head, without its body
abbrev pub reply_of : ResponseHead → Reply
reply_of h = record { status = status_code h; headers = map name_and_value h.fields; body = [] }

-- the bytes are one head by the grammar, with few enough fields
abbrev pub ReadsHead : List ℕ → ResponseHead → Type 0
ReadsHead bytes h = ReadsResponse bytes h [] × (length h.fields ≤ FIELD_LIMIT)

-- after a head of so many bytes, by what it says of the body
abbrev pub after_head : ℕ → ℕ → Reply → Kind → Step
after_head used size reply Interim = move (heads (used + size)) size
after_head used size reply NoBody = decide (Whole reply)
after_head used size reply Chunked = move (lines reply (used + size)) size
after_head used size reply (Fixed n) = move (fixed reply n) size
after_head used size reply ToEnd = move (to_end reply) size
after_head used size reply Bad = decide Malformed
after_head used size reply Big = decide TooLarge

-- a head is malformed unless the grammar reads exactly its bytes
abbrev pub JudgesHead : Bool → ℕ → List ℕ → Step → Type 0
JudgesHead head_only used head step =
    ((h : ResponseHead) × ReadsHead head h × (step ≡ after_head used (length head) (reply_of h) (kind_of head_only (reply_of h).status (reply_of h).headers)))
    ⊎ (((h : ResponseHead) → ReadsHead head h → ⊥) × (step ≡ decide Malformed))

-- a head is awaited up to its limit; it is judged at its end, if it isn't too large
abbrev pub CutsHead : Bool → ℕ → List ℕ → Option ℕ → Step → Type 0
CutsHead head_only used bytes None step =
    step ≡ (if nat_le (used + length bytes) HEAD_LIMIT then wait else decide TooLarge)
CutsHead head_only used bytes (Some n) step =
    MatchBool (nat_le (used + n) HEAD_LIMIT && nat_le (count_by (λ b. b == line_feed) (take n bytes)) LINE_LIMIT)
    (JudgesHead head_only used (take n bytes) step)
    (step ≡ decide TooLarge)

-- the last chunk has no bytes; another must not take the body past its limit
abbrev pub after_line : Reply → ℕ → ℕ → ℕ → Step
after_line reply used size n =
    if n == 0 then move (trailers reply used) size
    else (if nat_le (length reply.body + n) BODY_LIMIT then move (chunk reply used n) size else decide TooLarge)

-- a chunk line is malformed unless the grammar reads exactly its bytes
abbrev pub JudgesLine : Reply → ℕ → List ℕ → Step → Type 0
JudgesLine reply used line step =
    ((l : ChunkLine) × ReadsChunkLine line l [] × (step ≡ after_line reply used (length line) (chunk_size l)))
    ⊎ (((l : ChunkLine) → ReadsChunkLine line l [] → ⊥) × (step ≡ decide Malformed))

-- a chunk line is awaited up to its limit, and judged at its end
abbrev pub CutsLine : Reply → ℕ → List ℕ → Option ℕ → Step → Type 0
CutsLine reply used bytes None step =
    step ≡ (if nat_le (length bytes) CHUNK_LINE_LIMIT then wait else decide TooLarge)
CutsLine reply used bytes (Some n) step =
    MatchBool (nat_le n CHUNK_LINE_LIMIT) (JudgesLine reply used (take n bytes) step) (step ≡ decide TooLarge)

-- CR LF must follow a chunk
abbrev pub after_chunk : Step → List ℕ → Step
after_chunk next [] = wait
after_chunk next (b ∷ []) = if b == carriage_return then wait else decide Malformed
after_chunk next (b ∷ (c ∷ bytes)) = if b == carriage_return && c == line_feed then next else decide Malformed

-- trailer lines are skipped, up to an empty one, and count as the heads do
abbrev pub trailer_step : Reply → ℕ → List ℕ → Option ℕ → Step
trailer_step reply used bytes None =
    if nat_le (used + length bytes) HEAD_LIMIT then wait else decide TooLarge
trailer_step reply used bytes (Some n) =
    if nat_le (used + n) HEAD_LIMIT
    then (if is_some (empty_line (take n bytes)) then decide (Whole reply) else move (trailers reply (used + n)) n)
    else decide TooLarge

-- a body of a known length is awaited, and ends the reply
abbrev pub fixed_step : Reply → ℕ → List ℕ → Step
fixed_step reply size bytes =
    if nat_le size (length bytes) then decide (Whole (with_more reply (take size bytes))) else wait

-- a chunk joins the body
abbrev pub chunk_step : Reply → ℕ → ℕ → List ℕ → Step
chunk_step reply used size bytes =
    after_chunk (move (lines (with_more reply (take size bytes)) used) (size + 2)) (drop size bytes)

-- a body that lasts until the peer ends is awaited up to its limit
abbrev pub to_end_step : List ℕ → Step
to_end_step bytes = if nat_le (length bytes) BODY_LIMIT then wait else decide TooLarge

-- the step that a phase makes of the bytes
abbrev pub Does : Bool → Phase → List ℕ → Step → Type 0
Does head_only (heads used) bytes step = CutsHead head_only used bytes (head_end bytes) step
Does head_only (fixed reply size) bytes step = step ≡ fixed_step reply size bytes
Does head_only (lines reply used) bytes step = CutsLine reply used bytes (line_end bytes) step
Does head_only (chunk reply used size) bytes step = step ≡ chunk_step reply used size bytes
Does head_only (trailers reply used) bytes step = step ≡ trailer_step reply used bytes (line_end bytes)
Does head_only (to_end reply) bytes step = step ≡ to_end_step bytes

-- so many moves lead from one phase and bytes to another
abbrev pub Moves : Bool → ℕ → Phase → List ℕ → Phase → List ℕ → Type 0
Moves head_only zero p bytes q rest = (p ≡ q) × (bytes ≡ rest)
Moves head_only (suc n) p bytes q rest =
    (m : Phase) × (k : ℕ) × Does head_only p bytes (move m k) × Moves head_only n m (drop k bytes) q rest

-- some moves do
abbrev pub Leads : Bool → Phase → List ℕ → Phase → List ℕ → Type 0
Leads head_only p bytes q rest = (n : ℕ) × Moves head_only n p bytes q rest

-- from a phase on, the bytes decide the outcome
abbrev pub Decides : Bool → Phase → List ℕ → Outcome → Type 0
Decides head_only p bytes outcome =
    (q : Phase) × (rest : List ℕ) × Leads head_only p bytes q rest × Does head_only q rest (decide outcome)

-- from a phase on, the bytes leave this phase waiting for more, with these not yet taken
abbrev pub Awaits : Bool → Phase → List ℕ → Phase → List ℕ → Type 0
Awaits head_only p bytes q rest = Leads head_only p bytes q rest × Does head_only q rest wait
