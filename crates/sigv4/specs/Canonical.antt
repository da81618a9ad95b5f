-- The canonical request: AWS's "Create a signed AWS API request", step 1.
use Rattle.std.specs.Prelude.{ℕ, List, ◌++◌}
use Rattle.sha2.specs.Sha256.{sha256}
use Rattle.hex.specs.Hex.{encode_lower}
use Rattle.aws_world.specs.declared.message.Message.{Message}
use Rattle.sigv4.specs.Line.{line}
use Rattle.sigv4.specs.Path.{canonical_path}
use Rattle.sigv4.specs.Parameters.{canonical_query}
use Rattle.sigv4.specs.Headers.{canonical_headers, header_lines, signed_headers}

-- the method, the path, the query, these headers as they are signed, their names and the body's hash
abbrev pub canonical_text : Message → List (List ℕ × List ℕ) → List (List ℕ × List ℕ) → List (List ℕ) → List ℕ
canonical_text m headers query names =
    line m.method ++ line (canonical_path m.path) ++ line (canonical_query query)
    ++ line (header_lines headers names) ++ line (signed_headers names) ++ encode_lower (sha256 m.body)

-- the same with the headers of the message
abbrev pub canonical_request : Message → List (List ℕ × List ℕ) → List (List ℕ) → List ℕ
canonical_request m query names = canonical_text m (canonical_headers m.headers) query names
