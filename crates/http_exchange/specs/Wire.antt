-- A request as bytes: RFC 9112, sections 2.1, 3 and 5.
use Rattle.std.specs.Prelude.{ℕ, Bool, nat_lt, ◌||◌, if◌then◌else◌, List, [], ◌∷◌, ◌++◌, codes, length, flat_map, bytes_eq, encode_utf8_all}
use Rattle.std.specs.Fmt.{decimal}
use Rattle.aws_world.specs.declared.message.Message.{Message}
use Rattle.uri_texts.specs.Parameters.{parameter}

-- a line of the head, with its line end
abbrev pub line : List ℕ → List ℕ
line text = text ++ 13 ∷ 10 ∷ []

-- the query's parameters, the first behind the given mark and the others behind `&`
abbrev pub parameters : ℕ → List (List ℕ × List ℕ) → List ℕ
parameters mark [] = []
parameters mark (p ∷ ps) = mark ∷ parameter p ++ parameters 38 ps

-- method, target and version, with blanks between them
abbrev pub request_line : Message → List ℕ
request_line m = m.method ++ codes " " ++ m.path ++ parameters 63 m.query ++ codes " HTTP/1.1"

-- a field line
abbrev pub header : List ℕ × List ℕ → List ℕ
header h = h.0 ++ codes ": " ++ h.1

-- a method that gives a body its meaning
abbrev pub has_body_method : List ℕ → Bool
has_body_method method =
    bytes_eq method (codes "POST") || bytes_eq method (codes "PUT") || bytes_eq method (codes "PATCH")

-- a request with a body, or of such a method, tells the body's length
abbrev pub has_length : Message → Bool
has_length m = nat_lt 0 (length m.body) || has_body_method m.method

abbrev pub length_line : Message → List ℕ
length_line m = if has_length m then line (codes "Content-Length: " ++ decimal (length m.body)) else []

-- the head: the request line, the message's headers in their order, then this client's own lines
abbrev pub head_of : Message → List ℕ
head_of m =
    line (request_line m) ++ flat_map (λ h. line (header h)) m.headers ++ line (codes "User-Agent: aws-json-cli/1")
    ++ length_line m ++ line (codes "Connection: close") ++ line []

-- the head and the body
abbrev pub wire_of : Message → List ℕ
wire_of m = encode_utf8_all (head_of m) ++ m.body

-- the bytes of a message with more headers behind its own
abbrev pub wire_with : Message → List (List ℕ × List ℕ) → List ℕ
wire_with m more = wire_of (record m { headers = m.headers ++ more })
