-- Percent-escapes: RFC 3986, sections 2.1 to 2.3.
use Rattle.std.specs.Prelude.{ℕ, ◌/◌, ◌%◌, ◌==◌, ◌&&◌, ◌||◌, nat_le, Bool, true, false, if◌then◌else◌, List, [], ◌∷◌, flat_map, slice_index, codes, encode_utf8_all}
use Rattle.uri_texts.specs.declared.escapes.Slashes.{Slashes}
use Rattle.uri_texts.specs.declared.escapes.Slashes.TheVariants.{Escaped, Kept}

-- the unreserved characters: letters, digits, `-`, `.`, `_` and `~`
abbrev pub is_unreserved : ℕ → Bool
is_unreserved b =
    (nat_le 65 b && nat_le b 90) || (nat_le 97 b && nat_le b 122) || (nat_le 48 b && nat_le b 57)
    || (b == 45) || (b == 46) || (b == 95) || (b == 126)

abbrev pub are_kept : Slashes → Bool
are_kept Escaped = false
are_kept Kept = true

-- `%` and two hexadecimal digits, in capitals
abbrev pub escape : ℕ → List ℕ
escape b = 37 ∷ slice_index (codes "0123456789ABCDEF") (b / 16 % 16) ∷ slice_index (codes "0123456789ABCDEF") (b % 16) ∷ []

-- a byte as it stands where it is unreserved, or a slash that is kept, else its escape
abbrev pub escaped_byte : Slashes → ℕ → List ℕ
escaped_byte slashes b = if is_unreserved b || (are_kept slashes && (b == 47)) then b ∷ [] else escape b

-- a text by its bytes in UTF-8
abbrev pub escaped : Slashes → List ℕ → List ℕ
escaped slashes text = flat_map (escaped_byte slashes) (encode_utf8_all text)
