-- What a head says of the body (RFC 9112, section 6.3).
use Rattle.std.specs.Prelude.{ℕ, Bool, ◌&&◌, ◌||◌, ◌^◌, ◌≤◌, List, [], ◌∷◌, length, codes, bytes_eq, if◌then◌else◌, ◌==◌, nat_lt, nat_le}
use Rattle.std.specs.List.{list_all}
use Rattle.std.specs.Char.{is_ascii_digit}
use Rattle.std.specs.Str.{str_eq_ignore_ascii_case}
use Rattle.std.specs.Str.Parse.{digits_value}
use Rattle.http_reply.specs.declared.kinds.Kind.{Kind}
use Rattle.http_reply.specs.declared.kinds.Kind.TheVariants.{Interim, NoBody, Chunked, Fixed, ToEnd, Malformed, TooLarge}
use Rattle.aws_world.specs.Headers.{named}
use Rattle.http_reply.specs.declared.limits.TheConstants.{BODY_LIMIT}

-- the value is a number below 2^63, in digits alone
abbrev pub is_length : List ℕ → Bool
is_length value =
    nat_lt 0 (length value) && list_all is_ascii_digit value && nat_lt (digits_value 10 value) (2 ^ 63)

-- the body is as long as its number says
abbrev pub kind_by_number : List ℕ → Kind
kind_by_number value =
    if is_length value
    then (if nat_le (digits_value 10 value) BODY_LIMIT then Fixed (digits_value 10 value) else TooLarge)
    else Malformed

-- by the values of Content-Length, whose copies must be equal
abbrev pub kind_by_length : List (List ℕ) → Kind
kind_by_length [] = ToEnd
kind_by_length (value ∷ copies) =
    if list_all (λ copy. bytes_eq copy value) copies then kind_by_number value else Malformed

-- by the values of Transfer-Encoding, which goes before Content-Length
abbrev pub kind_by_coding : List (List ℕ) → Kind → Kind
kind_by_coding [] other = other
kind_by_coding (coding ∷ codings) other =
    if list_all (λ c. str_eq_ignore_ascii_case c (codes "chunked")) (coding ∷ codings) then Chunked else Malformed

-- by the method, the status and the fields of the head
abbrev pub kind_of : Bool → ℕ → List (List ℕ × List ℕ) → Kind
kind_of head_only status fields =
    if nat_le 100 status && nat_lt status 200 then Interim
    else (if head_only || status == 204 || status == 304 then NoBody
    else kind_by_coding (named (codes "transfer-encoding") fields) (kind_by_length (named (codes "content-length") fields)))

-- a body of a known length is within the limit
abbrev pub IsWithinLimit : Kind → Type 0
IsWithinLimit Interim = Unit {0}
IsWithinLimit NoBody = Unit {0}
IsWithinLimit Chunked = Unit {0}
IsWithinLimit (Fixed size) = size ≤ BODY_LIMIT
IsWithinLimit ToEnd = Unit {0}
IsWithinLimit Malformed = Unit {0}
IsWithinLimit TooLarge = Unit {0}
