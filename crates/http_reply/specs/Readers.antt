-- How the front of a text is read as a head or as a chunk line (RFC 9112, sections 2.1, 4, 5 and 7.1).
use Rattle.std.specs.Prelude.{ℕ, zero, suc, Bool, ◌&&◌, ◌||◌, List, [], ◌∷◌, length, Option, None, Some, option_map, option_and_then, if◌then◌else◌, ◌==◌, nat_lt, nat_le, codes, ⊤}
use Rattle.std.specs.Option.{option_or}
use Rattle.std.specs.Char.{is_ascii_digit, is_ascii_hexdigit}
use Rattle.httparse.specs.Ascii.{line_feed, carriage_return, space, colon, semicolon, crlf_bytes}
use Rattle.httparse.specs.Grammar.{LineEnd, crlf, lf, Field, ResponseHead, ChunkLine, is_token_byte, is_value_byte, is_ows, is_extension_byte}
use Rattle.http_reply.specs.declared.limits.TheConstants.{FIELD_LIMIT}

-- what stands at the front of a text, and the rest; None where no such thing stands there
abbrev pub Reader : Type 0 → Type 0
Reader A = List ℕ → Option (A × List ℕ)

-- one thing and then another
abbrev pub both : {A B : Type 0} → Reader A → Reader B → Reader (A × B)
both first second text = option_and_then (λ a. option_map (λ b. ((a.0, b.0), b.1)) (second a.1)) (first text)

-- all bytes that pass the test, where another follows them
abbrev pub read_run : (ℕ → Bool) → Reader (List ℕ)
read_run test [] = None
read_run test (b ∷ text) =
    if test b then option_map (λ r. (b ∷ r.0, r.1)) (read_run test text) else Some ([], b ∷ text)

-- a byte that passes the test
abbrev pub read_byte : (ℕ → Bool) → Reader ℕ
read_byte test [] = None
read_byte test (b ∷ text) = if test b then Some (b, text) else None

-- these bytes
abbrev pub read_bytes : List ℕ → Reader ⊤
read_bytes [] text = Some (tt, text)
read_bytes (b ∷ bytes) [] = None
read_bytes (b ∷ bytes) (c ∷ text) = if c == b then read_bytes bytes text else None

-- LF or CR LF
abbrev pub read_end : Reader LineEnd
read_end [] = None
read_end (b ∷ text) =
    if b == line_feed then Some (lf, text)
    else (if b == carriage_return then option_map (λ r. (crlf, r.1)) (read_bytes (line_feed ∷ []) text) else None)

-- the empty lines, where another byte than CR and LF follows them
abbrev pub read_blank : Reader (List LineEnd)
read_blank [] = None
read_blank (b ∷ []) = if b == carriage_return || b == line_feed then None else Some ([], b ∷ [])
read_blank (b ∷ (c ∷ text)) =
    if b == line_feed then option_map (λ r. (lf ∷ r.0, r.1)) (read_blank (c ∷ text))
    else (if b == carriage_return
    then (if c == line_feed then option_map (λ r. (crlf ∷ r.0, r.1)) (read_blank text) else None)
    else Some ([], b ∷ c ∷ text))

-- the minor version, 0 or 1
abbrev pub read_minor : Reader ℕ
read_minor [] = None
read_minor (b ∷ text) = if b == 48 then Some (0, text) else (if b == 49 then Some (1, text) else None)

abbrev pub read_version : Reader ℕ
read_version text = option_map (λ r. (r.0.1, r.1)) (both (read_bytes (codes "HTTP/1.")) read_minor text)

abbrev pub read_code : Reader (ℕ × (ℕ × ℕ))
read_code = both (read_byte is_ascii_digit) (both (read_byte is_ascii_digit) (read_byte is_ascii_digit))

-- the bytes of a value, and the line's end
abbrev pub read_value : Reader (List ℕ × LineEnd)
read_value = both (read_run is_value_byte) read_end

-- the phrase behind a space, if there is one, and the line's end
abbrev pub read_reason : Reader (Option (List ℕ) × LineEnd)
read_reason [] = None
read_reason (b ∷ text) =
    if b == space then option_map (λ r. ((Some r.0.0, r.0.1), r.1)) (read_value text)
    else option_map (λ r. ((None, r.0), r.1)) (read_end (b ∷ text))

-- a name, and its colon
abbrev pub before_colon : List ℕ × List ℕ → Option (List ℕ × List ℕ)
before_colon ([], rest) = None
before_colon (b ∷ name, []) = None
before_colon (b ∷ name, c ∷ rest) = if c == colon then Some (b ∷ name, rest) else None

abbrev pub read_name : Reader (List ℕ)
read_name text = option_and_then before_colon (read_run is_token_byte text)

abbrev pub read_field : Reader Field
read_field text =
    option_map (λ r. (record { name = r.0.0; raw = r.0.1.0; end = r.0.1.1 }, r.1)) (both read_name read_value text)

-- at most so many fields, and the empty line
abbrev pub read_section : ℕ → Reader (List Field × LineEnd)
read_section zero text = option_map (λ r. (([], r.0), r.1)) (read_end text)
read_section (suc n) text =
    option_or (option_map (λ r. (([], r.0), r.1)) (read_end text))
    (option_map (λ r. ((r.0.0 ∷ r.0.1.0, r.0.1.1), r.1)) (both read_field (read_section n) text))

-- what was read of the whole text
abbrev pub whole : {A : Type 0} → A × List ℕ → Option A
whole (a, []) = Some a
whole (a, b ∷ rest) = None

-- the parts of a head
abbrev pub HeadTree : Type 0
HeadTree = (List LineEnd × (ℕ × (⊤ × ((ℕ × (ℕ × ℕ)) × (Option (List ℕ) × LineEnd))))) × (List Field × LineEnd)

-- a head with at most so many fields
abbrev pub read_head : ℕ → Reader HeadTree
read_head most =
    both (both read_blank (both read_version (both (read_bytes (space ∷ [])) (both read_code read_reason)))) (read_section most)

abbrev pub head_of : HeadTree → ResponseHead
head_of t =
    let code = t.0.1.1.1.0 in
    record {
      blank = t.0.0;
      minor = t.0.1.0;
      digits = code.0 ∷ code.1.0 ∷ code.1.1 ∷ [];
      reason = t.0.1.1.1.1.0;
      line_end = t.0.1.1.1.1.1;
      fields = t.1.0;
      last = t.1.1;
    }

-- the head that all of the bytes are
unfoldable pub head_in : List ℕ → Option ResponseHead
head_in bytes = option_map head_of (option_and_then whole (read_head FIELD_LIMIT bytes))

-- 1 to 16 digits
abbrev pub read_digits : Reader (List ℕ)
read_digits text =
    option_and_then (λ r. if nat_lt 0 (length r.0) && nat_le (length r.0) 16 then Some r else None) (read_run is_ascii_hexdigit text)

-- the text behind a semicolon, if there is one, and CR LF
abbrev pub read_extension : Reader (Option (List ℕ))
read_extension [] = None
read_extension (b ∷ text) =
    if b == semicolon then option_map (λ r. (Some r.0.0, r.1)) (both (read_run is_extension_byte) (read_bytes crlf_bytes) text)
    else option_map (λ r. (None, r.1)) (read_bytes crlf_bytes (b ∷ text))

-- the parts of a chunk line
abbrev pub ChunkTree : Type 0
ChunkTree = List ℕ × (List ℕ × Option (List ℕ))

abbrev pub read_chunk_line : Reader ChunkTree
read_chunk_line = both read_digits (both (read_run is_ows) read_extension)

abbrev pub chunk_line_of : ChunkTree → ChunkLine
chunk_line_of t = record { digits = t.0; pad = t.1.0; extension = t.1.1 }

-- the chunk line that all of the bytes are
unfoldable pub chunk_line_in : List ℕ → Option ChunkLine
chunk_line_in bytes = option_map chunk_line_of (option_and_then whole (read_chunk_line bytes))
