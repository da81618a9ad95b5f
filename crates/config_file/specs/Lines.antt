-- What a line of a settings file is: the first of its forms that fits. A line is bytes, without its end.
use Rattle.std.specs.Prelude.{ℕ, ◌+◌, ◌-◌, Bool, true, false, not, ◌&&◌, ◌||◌, if◌then◌else◌, List, [], ◌∷◌, length, take, drop, map, position, nat_eq, nat_lt, codes, slice_range, bytes_eq, Option, None, Some, option_map, option_and_then}
use Rattle.std.specs.Char.{to_ascii_lowercase}
use Rattle.std.specs.List.{list_all, starts_with, ends_with}
use Rattle.std.specs.Option.{option_or}
use Rattle.std.specs.Str.{chars, is_utf8}
use Rattle.config_file.specs.declared.fault.FileKind.{FileKind}
use Rattle.config_file.specs.declared.fault.FileKind.TheVariants.{Config, Credentials}
use Rattle.config_file.specs.declared.line.Line.{Line}
use Rattle.config_file.specs.declared.line.Line.TheVariants.{Nothing, Head, Key}
use Rattle.config_file.specs.declared.line.Place.{Place}
use Rattle.config_file.specs.declared.line.Place.TheVariants.{Outside, Opened, Behind}
use Rattle.config_file.specs.Trimmed.{is_blank, blanks_before, front_trimmed, end_trimmed, trimmed}

-- a line that starts with more blanks than the last key line of its section
abbrev pub is_nested : Place → List ℕ → Bool
is_nested Outside line = false
is_nested Opened line = false
is_nested (Behind blanks) line = nat_lt blanks (blanks_before line)

-- nothing, or a comment behind `#` or `;`
abbrev pub is_remark : List ℕ → Bool
is_remark [] = true
is_remark (b ∷ bs) = nat_eq b 35 || nat_eq b 59

-- the text between `[` and `]`, where it isn't empty
abbrev pub in_brackets : List ℕ → Option (List ℕ)
in_brackets text =
    if starts_with nat_eq text (codes "[") && ends_with nat_eq text (codes "]") && nat_lt 2 (length text)
    then Some (slice_range text 1 (length text - 1)) else None

-- neither a blank nor `"`
abbrev pub is_word_byte : ℕ → Bool
is_word_byte b = not (is_blank b || nat_eq b 34)

-- one word
abbrev pub word_in : List ℕ → Option (List ℕ)
word_in text = if nat_lt 0 (length text) && list_all is_word_byte text then Some text else None

-- what stands between two `"`
abbrev pub in_quotes : List ℕ → Option (List ℕ)
in_quotes text =
    if starts_with nat_eq text (codes "\"") && ends_with nat_eq text (codes "\"") && nat_lt 1 (length text)
    then Some (slice_range text 1 (length text - 1)) else None

abbrev pub has_no_quote : List ℕ → Bool
has_no_quote text = list_all (λ b. not (nat_eq b 34)) text

-- the text between two `"`, where it has no third
abbrev pub quoted_in : List ℕ → Option (List ℕ)
quoted_in text = option_and_then (λ inside. if has_no_quote inside then Some inside else None) (in_quotes text)

-- what comes after `profile` and a space, where a name begins so
abbrev pub after_profile : List ℕ → Option (List ℕ)
after_profile name = if starts_with nat_eq name (codes "profile ") then Some (drop 8 name) else None

abbrev pub quoted_or_word : List ℕ → Option (List ℕ)
quoted_or_word text = option_or (quoted_in text) (word_in text)

-- the profile of a section of the config file: `default`, `profile x` or `profile "x"`
abbrev pub config_profile : List ℕ → Option (List ℕ)
config_profile name =
    if bytes_eq name (codes "default") then Some name else option_and_then quoted_or_word (after_profile name)

-- the profile of a section: in the credentials file each is one
abbrev pub profile_named : FileKind → List ℕ → Option (List ℕ)
profile_named Config name = config_profile name
profile_named Credentials name = Some name

abbrev pub head_named : FileKind → List ℕ → Line
head_named kind name = Head (option_map chars (profile_named kind name))

-- `[name]`, and blanks behind it
abbrev pub head_of : FileKind → List ℕ → Option Line
head_of kind line = option_map (head_named kind) (in_brackets (end_trimmed line))

-- `=` or `:`
abbrev pub is_sign : ℕ → Bool
is_sign b = nat_eq b 61 || nat_eq b 58

-- a key, which isn't empty, in small letters and its value, behind so many blanks
abbrev pub key_with : ℕ → List ℕ → List ℕ → Option Line
key_with blanks [] value = None
key_with blanks (b ∷ bs) value = Some (Key blanks (chars (map to_ascii_lowercase (b ∷ bs))) (chars value))

-- the key before the sign at this position, and the value behind it, both trimmed
abbrev pub key_at : List ℕ → ℕ → Option Line
key_at line at = key_with (blanks_before line) (trimmed (take at line)) (trimmed (drop (at + 1) line))

-- `key = value`, in a section; the first sign counts
abbrev pub key_of : Place → List ℕ → Option Line
key_of Outside line = None
key_of place line = option_and_then (key_at line) (position is_sign line)

-- what a line in UTF-8 is; none of the forms where it is faulty
abbrev pub form_of : FileKind → Place → List ℕ → Option Line
form_of kind place line =
    if is_nested place line || is_remark (front_trimmed line) then Some Nothing
    else option_or (head_of kind line) (key_of place line)

abbrev pub line_of : FileKind → Place → List ℕ → Option Line
line_of kind place line = if is_utf8 line then form_of kind place line else None

-- where the next line stands
abbrev pub place_behind : Place → Line → Place
place_behind place Nothing = place
place_behind place (Head profile) = Opened
place_behind place (Key blanks key value) = Behind blanks
