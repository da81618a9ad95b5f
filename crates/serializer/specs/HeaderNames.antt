-- Which headers can stand behind others.
use Rattle.std.specs.Prelude.{ℕ, Bool, not, ◌&&◌, ◌||◌, nat_eq, nat_lt, nat_le, List, length, codes, encode_utf8_all}
use Rattle.std.specs.Char.{is_ascii_alphanumeric}
use Rattle.std.specs.List.{list_any, list_all}
use Rattle.std.specs.Str.{str_eq_ignore_ascii_case}

-- no control character of ASCII
abbrev pub is_header_byte : ℕ → Bool
is_header_byte b = nat_le 32 b && not (nat_eq b 127)

abbrev pub is_plain : List ℕ → Bool
is_plain value = list_all is_header_byte (encode_utf8_all value)

-- `tchar` of RFC 9110, section 5.6.2
abbrev pub is_token_byte : ℕ → Bool
is_token_byte b = is_ascii_alphanumeric b || list_any (λ c. nat_eq c b) (codes "!#$%&'*+-.^_`|~")

abbrev pub are_token_bytes : List ℕ → Bool
are_token_bytes bytes = nat_lt 0 (length bytes) && list_all is_token_byte bytes

abbrev pub is_token : List ℕ → Bool
is_token name = are_token_bytes (encode_utf8_all name)

-- the names that the client itself writes
abbrev pub is_of_signing : List ℕ → Bool
is_of_signing name =
    str_eq_ignore_ascii_case name (codes "Host") || str_eq_ignore_ascii_case name (codes "Authorization")
    || str_eq_ignore_ascii_case name (codes "X-Amz-Date") || str_eq_ignore_ascii_case name (codes "X-Amz-Security-Token")

-- those that say where a message ends, who sends it and over what
abbrev pub is_of_sending : List ℕ → Bool
is_of_sending name =
    str_eq_ignore_ascii_case name (codes "Content-Length") || str_eq_ignore_ascii_case name (codes "Connection")
    || str_eq_ignore_ascii_case name (codes "User-Agent") || str_eq_ignore_ascii_case name (codes "Transfer-Encoding")

abbrev pub is_forbidden : List ℕ → Bool
is_forbidden name = is_of_signing name || is_of_sending name

-- a header of this name is there; letter case doesn't count
abbrev pub is_among : List (List ℕ × List ℕ) → List ℕ → Bool
is_among headers name = list_any (λ h. str_eq_ignore_ascii_case h.0 name) headers

-- a header can't stand behind these
abbrev pub is_bad_header : List (List ℕ × List ℕ) → List ℕ × List ℕ → Bool
is_bad_header earlier h = not (is_plain h.1) || not (is_token h.0) || is_forbidden h.0 || is_among earlier h.0
