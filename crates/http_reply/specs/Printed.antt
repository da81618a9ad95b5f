-- Whole replies as the grammar prints them (RFC 9112, sections 2.1, 6.3 and 7.1).
use Rattle.std.specs.Prelude.{◌≡◌, ℕ, ◌+◌, ◌<◌, ◌≤◌, Bool, true, None, List, [], ◌++◌, length, map, All, Option}
use Rattle.std.specs.List.{flat_map}
use Rattle.httparse.specs.Ascii.{crlf_bytes}
use Rattle.httparse.specs.Grammar.{LineEnd, Field, IsField, print_section, ResponseHead, IsResponseHead, print_response, status_code, ChunkLine, IsChunkLine, print_chunk_line, chunk_size}
use Rattle.httparse.specs.Spans.{name_and_value}
use Rattle.aws_world.specs.declared.link.LinkFault.{LinkFault}
use Rattle.http_reply.specs.declared.kinds.Kind.{Kind}
use Rattle.http_reply.specs.declared.kinds.Kind.TheVariants.{Interim, NoBody, Chunked, Fixed, ToEnd}
use Rattle.http_reply.specs.declared.outcome.Outcome.TheVariants.{Whole}
use Rattle.http_reply.specs.declared.limits.TheConstants.{HEAD_LIMIT, FIELD_LIMIT, CHUNK_LINE_LIMIT, BODY_LIMIT, TOTAL_LIMIT}
use Rattle.http_reply.specs.Kinds.{kind_of}
use Rattle.http_reply.specs.Machine.{with_more, reply_of}
use Rattle.http_reply.specs.Outcome.{IsOutcome}

-- a chunk: its line, and its bytes
pub record Chunk : Type 0 where
  pub line : ChunkLine
  pub bytes : List ℕ

-- the line, the bytes, and CR LF
abbrev pub print_chunk : Chunk → List ℕ
print_chunk c = print_chunk_line c.line ++ (c.bytes ++ crlf_bytes)

-- no body, one by its length, or one in chunks, with the last chunk's line and the trailer section
pub data Body : Type 0 where
  none : Body
  sized : List ℕ → Body
  chunked : List Chunk → ChunkLine → List Field → LineEnd → Body

-- the bytes of a body as they are sent
abbrev pub print_body : Body → List ℕ
print_body none = []
print_body (sized bytes) = bytes
print_body (chunked chunks last trailers end) =
    flat_map print_chunk chunks ++ (print_chunk_line last ++ print_section trailers end)

-- the body itself
abbrev pub body_bytes : Body → List ℕ
body_bytes none = []
body_bytes (sized bytes) = bytes
body_bytes (chunked chunks last trailers end) = flat_map (λ c. c.bytes) chunks

-- how many of the bytes count as heads do
abbrev pub trailer_size : Body → ℕ
trailer_size none = 0
trailer_size (sized bytes) = 0
trailer_size (chunked chunks last trailers end) = length (print_section trailers end)

-- interim heads, a head and a body
pub record PrintedReply : Type 0 where
  pub interims : List ResponseHead
  pub head : ResponseHead
  pub body : Body

abbrev pub print_reply : PrintedReply → List ℕ
print_reply r = flat_map print_response r.interims ++ (print_response r.head ++ print_body r.body)

-- at most one empty line stands before a head, and its lines are few
pub record IsPlainHead (h : ResponseHead) : Type 0 where
  pub valid : IsResponseHead h
  pub blank : length h.blank ≤ 1
  pub few : length h.blank + length h.fields ≤ FIELD_LIMIT

-- what a head says of the body
abbrev pub kind_after : Bool → ResponseHead → Kind
kind_after head_only h = kind_of head_only (status_code h) (map name_and_value h.fields)

-- the line gives the number of the bytes, which isn't 0
pub record IsChunk (c : Chunk) : Type 0 where
  pub valid : IsChunkLine c.line
  pub short : length (print_chunk_line c.line) ≤ CHUNK_LINE_LIMIT
  pub some : 0 < length c.bytes
  pub size : chunk_size c.line ≡ length c.bytes

-- the head says that this body comes
abbrev pub IsBodyOf : Kind → Body → Type 0
IsBodyOf kind none = kind ≡ NoBody
IsBodyOf kind (sized bytes) = kind ≡ Fixed (length bytes)
IsBodyOf kind (chunked chunks last trailers end) =
    (kind ≡ Chunked) × All IsChunk chunks
    × IsChunkLine last × (length (print_chunk_line last) ≤ CHUNK_LINE_LIMIT) × (chunk_size last ≡ 0)
    × All IsField trailers

-- a reply to a method that is HEAD or another, within the limits
pub record IsPrinted (head_only : Bool) (r : PrintedReply) : Type 0 where
  pub interims : All IsPlainHead r.interims
  pub are_interim : All (λ h. kind_after head_only h ≡ Interim) r.interims
  pub head : IsPlainHead r.head
  pub body : IsBodyOf (kind_after head_only r.head) r.body
  pub head_size : length (flat_map print_response r.interims) + length (print_response r.head) + trailer_size r.body ≤ HEAD_LIMIT
  pub body_size : length (body_bytes r.body) ≤ BODY_LIMIT
  pub size : length (print_reply r) ≤ TOTAL_LIMIT

-- a reply that the grammar prints is answered as whole, whatever follows
abbrev pub PrintedIsWhole : Type 0
PrintedIsWhole =
    (head_only : Bool) (r : PrintedReply) (more : List ℕ) (ended : Bool) (fault : Option LinkFault)
    → IsPrinted head_only r
    → IsOutcome head_only (print_reply r ++ more) ended fault (Whole (with_more (reply_of r.head) (body_bytes r.body)))

-- a reply whose body lasts until the peer ends is answered as whole at that end
abbrev pub EndedIsWhole : Type 0
EndedIsWhole =
    (head_only : Bool) (interims : List ResponseHead) (h : ResponseHead) (bytes : List ℕ)
    → All IsPlainHead interims → All (λ i. kind_after head_only i ≡ Interim) interims
    → IsPlainHead h → kind_after head_only h ≡ ToEnd
    → length (flat_map print_response interims) + length (print_response h) ≤ HEAD_LIMIT
    → length bytes ≤ BODY_LIMIT
    → IsOutcome head_only (flat_map print_response interims ++ (print_response h ++ bytes)) true None (Whole (with_more (reply_of h) bytes))
