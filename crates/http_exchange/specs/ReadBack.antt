-- A request as its receiver reads it: by RFC 9112's grammar of a request's head, as `httparse` has it.
use Rattle.std.specs.Prelude.{◌≡◌, ℕ, ◌<◌, Bool, true, not, nat_lt, nat_le, nat_eq, ◌&&◌, ◌||◌, if◌then◌else◌, List, [], ◌∷◌, ◌++◌, map, filter, length, codes, encode_utf8_all}
use Rattle.std.specs.Fmt.{decimal}
use Rattle.std.specs.List.{list_all}
use Rattle.std.specs.Str.{str_eq_ignore_ascii_case}
use Rattle.aws_world.specs.declared.message.Message.{Message}
use Rattle.httparse.specs.Grammar.{RequestHead, ReadsRequest, is_token, trim_ows}
use Rattle.httparse.specs.Spans.{name_and_value}
use Rattle.uri_texts.specs.Visible.{is_visible}
use Rattle.http_exchange.specs.Wire.{parameters, has_length, wire_of}

-- the target: the path with its query
abbrev pub target_of : Message → List ℕ
target_of m = m.path ++ parameters 63 m.query

-- Content-Length, where the request tells its body's length
abbrev pub length_fields : Message → List (List ℕ × List ℕ)
length_fields m = if has_length m then (codes "Content-Length", decimal (length m.body)) ∷ [] else []

-- the message's headers in their order, and then this client's own
abbrev pub fields_of : Message → List (List ℕ × List ℕ)
fields_of m =
    m.headers ++ (codes "User-Agent", codes "aws-json-cli/1") ∷ length_fields m ++ (codes "Connection", codes "close") ∷ []

-- no control character of ASCII
abbrev pub is_field_character : ℕ → Bool
is_field_character c = nat_le 32 c && not (nat_eq c 127)

-- the fields that say where a body ends
abbrev pub is_framing : List ℕ → Bool
is_framing name =
    str_eq_ignore_ascii_case name (codes "Content-Length") || str_eq_ignore_ascii_case name (codes "Transfer-Encoding")

-- a token for its name, no control character in its value, and not one that says where the body ends
abbrev pub is_clean_header : List ℕ × List ℕ → Bool
is_clean_header h = is_token (encode_utf8_all h.0) && not (is_framing h.0) && list_all is_field_character h.1

-- what is asked of a message
pub record IsClean (m : Message) : Type 0 where
  pub method : is_token (encode_utf8_all m.method) ≡ true
  pub target : list_all is_visible (target_of m) ≡ true
  pub has_target : 0 < length (target_of m)
  pub headers : list_all is_clean_header m.headers ≡ true

-- a field as it is read: a value stands without the blanks around it
abbrev pub as_read : List ℕ × List ℕ → List ℕ × List ℕ
as_read h = (encode_utf8_all h.0, trim_ows (encode_utf8_all h.1))

-- the names and values of the fields of a head
abbrev pub fields_in : RequestHead → List (List ℕ × List ℕ)
fields_in head = map name_and_value head.fields

-- a head says this message: its method, its target and its fields; and of those that say where the body ends it
-- has the length of the message's body, where that is told, and no other
pub record Says (m : Message) (head : RequestHead) : Type 0 where
  pub method : head.method ≡ encode_utf8_all m.method
  pub target : head.target ≡ encode_utf8_all (target_of m)
  pub version : head.minor ≡ 1
  pub fields : fields_in head ≡ map as_read (fields_of m)
  pub framing : filter (λ f. is_framing f.0) (fields_in head) ≡ length_fields m

-- the bytes of a request begin with a head, and whatever head they are read as, it says the message, and what is
-- behind it is the body
pub record ReadsBack (m : Message) : Type 0 where
  pub is_read : (head : RequestHead) × ReadsRequest (wire_of m) head m.body
  pub as_written : (head : RequestHead) (rest : List ℕ) → ReadsRequest (wire_of m) head rest → Says m head × (rest ≡ m.body)

-- no clean message is read as another
abbrev pub RequestsReadBack : Type 0
RequestsReadBack = (m : Message) → IsClean m → ReadsBack m
