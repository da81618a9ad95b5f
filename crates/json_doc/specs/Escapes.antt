-- How a text stands between quotation marks: RFC 8259, section 7, "Strings".
use Rattle.std.specs.Prelude.{ℕ, ◌/◌, ◌%◌, ◌==◌, Bool, ◌&&◌, ◌||◌, nat_le, if◌then◌else◌, List, [], ◌∷◌, ◌++◌, Option, None, Some}
use Rattle.std.specs.Option.{option_map_or}
use Rattle.std.specs.List.{flat_map}
use Rattle.std.specs.Char.{digit_char}
use Rattle.std.specs.Char.Escape.{encode_utf16}
use Rattle.json_doc.specs.declared.layout.Layout.{Layout}
use Rattle.json_doc.specs.declared.layout.Layout.TheVariants.{Compact, Indented}

-- the second character of a two-character escape: of `"`, `\`, and of \b, \t, \n, \f and \r
abbrev pub letter_of : ℕ → Option ℕ
letter_of c = if c == 34 || c == 92 then Some c
    else (if c == 8 then Some 98
    else (if c == 9 then Some 116
    else (if c == 10 then Some 110
    else (if c == 12 then Some 102
    else (if c == 13 then Some 114
    else None)))))

-- a unit of UTF-16 as `\u` and four hexadecimal digits
abbrev pub unit_escape : ℕ → List ℕ
unit_escape unit =
    92 ∷ 117 ∷ digit_char (unit / 4096) ∷ digit_char (unit / 256 % 16) ∷ digit_char (unit / 16 % 16) ∷ digit_char (unit % 16) ∷ []

-- a character that needs no escape: compact texts are printable ASCII
abbrev pub is_bare : Layout → ℕ → Bool
is_bare Compact c = nat_le 32 c && nat_le c 126
is_bare Indented c = nat_le 32 c

-- a character as it stands in a text: by its two-character escape, bare, or by its units of UTF-16
abbrev pub escaped : Layout → ℕ → List ℕ
escaped layout c = option_map_or (λ letter. 92 ∷ letter ∷ []) (letter_of c)
    (if is_bare layout c then c ∷ [] else flat_map unit_escape (encode_utf16 c))

-- a text in quotation marks
abbrev pub quoted : Layout → List ℕ → List ℕ
quoted layout cs = 34 ∷ flat_map (escaped layout) cs ++ 34 ∷ []
