-- The fields of a head (RFC 9110, sections 5.1 and 5.2).
use Rattle.std.specs.Prelude.{ℕ, List, map}
use Rattle.httparse.specs.declared.spans.HeaderSpan.{HeaderSpan}
use Rattle.httparse.specs.Spans.{header_bytes}

-- the fields that spans of the bytes cover
abbrev pub fields_in : List ℕ → List HeaderSpan → List (List ℕ × List ℕ)
fields_in bytes spans = map (header_bytes bytes) spans
