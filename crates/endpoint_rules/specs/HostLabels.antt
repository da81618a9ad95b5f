-- `isValidHostLabel`: "Evaluates whether the input string is a compliant RFC 1123 host segment. When
-- allowSubDomains is true, evaluates whether the input string is composed of values that are each a valid
-- RFC 1123 host segment joined by a dot character."
use Rattle.std.specs.Prelude.{ℕ, ◌-◌, ◌&&◌, ◌||◌, Bool, not, nat_eq, nat_lt, nat_le, if◌then◌else◌, List, length, slice_index, codes}
use Rattle.std.specs.Char.{is_ascii_alphanumeric}
use Rattle.std.specs.List.{list_all}
use Rattle.texts.specs.Cut.{cut, is_among}

abbrev pub is_hyphen : ℕ → Bool
is_hyphen c = nat_eq c 45

abbrev pub is_label_character : ℕ → Bool
is_label_character c = is_ascii_alphanumeric c || is_hyphen c

-- there are 1 to 63 characters, without a hyphen at either end
abbrev pub has_label_form : List ℕ → Bool
has_label_form text =
    nat_lt 0 (length text) && nat_le (length text) 63
    && not (is_hyphen (slice_index text 0)) && not (is_hyphen (slice_index text (length text - 1)))

-- 1 to 63 letters, digits and hyphens, without a hyphen at either end
abbrev pub is_label : List ℕ → Bool
is_label text = list_all is_label_character text && has_label_form text

abbrev pub are_labels : List (List ℕ) → Bool
are_labels parts = list_all is_label parts

abbrev pub is_host_label : List ℕ → Bool → Bool
is_host_label text dots = if dots then are_labels (cut (is_among (codes ".")) text) else is_label text
