-- Texts of JSON behind their opening quotation mark (RFC 8259, section 7: string).
use Rattle.std.specs.Prelude.{◌≡◌, ◌≢◌, ℕ, zero, suc, ◌+◌, ◌-◌, ◌*◌, ◌≤◌, ◌==◌, nat_lt, ◌||◌, Bool, if◌then◌else◌, List, [], ◌∷◌, ◌++◌, length, drop, slice_index, IsTrue, Option, None, Some, Ok, Err, encode_utf8}
use Rattle.std.specs.Option.{ok_or}
use Rattle.std.specs.Int.{is_in_range}
use Rattle.std.specs.Char.{IsScalar, digit_value}
use Rattle.std.specs.Char.Utf16.{is_high_surrogate, is_low_surrogate, surrogate_pair_char}
use Rattle.std.specs.Str.Lossy.{second_byte_min, second_byte_max}
use Rattle.std.specs.Str.Parse.{digits_value, AllDigits}
use Rattle.json_doc.specs.declared.stop.Stop.TheVariants.{Syntax}
use Rattle.json_doc.specs.Reading.{Read, byte_in}
use Rattle.texts.specs.Calls.{◌>>=◌}

-- What spells what.

-- a character that stands for itself: all from the blank on but the quotation mark and the backslash
abbrev pub IsUnescaped : ℕ → Type 0
IsUnescaped c = IsScalar c × (0x20 ≤ c) × (c ≢ 0x22) × (c ≢ 0x5C)

-- the character that a letter behind a backslash names: `"`, `\` and `/` themselves, and backspace,
-- form feed, line feed, carriage return and tab by `b`, `f`, `n`, `r` and `t`
abbrev pub named_char : ℕ → Option ℕ
named_char letter =
    if letter == 0x22 then Some 0x22 else
    (if letter == 0x5C then Some 0x5C else
    (if letter == 0x2F then Some 0x2F else
    (if letter == 0x62 then Some 0x08 else
    (if letter == 0x66 then Some 0x0C else
    (if letter == 0x6E then Some 0x0A else
    (if letter == 0x72 then Some 0x0D else
    (if letter == 0x74 then Some 0x09 else None)))))))

-- four hexadecimal digits and their value
abbrev pub IsUnit : List ℕ → ℕ → Type 0
IsUnit ds u = (length ds ≡ 4) × AllDigits 16 ds × (u ≡ digits_value 16 ds)

-- the bytes that spell a character: char
pub data SpellsChar : ℕ → List ℕ → Type 0 where
  unescaped : {c : ℕ} {bs : List ℕ} → IsUnescaped c → bs ≡ encode_utf8 c → SpellsChar c bs
  named : {c letter : ℕ} {bs : List ℕ} → named_char letter ≡ Some c → bs ≡ 0x5C ∷ letter ∷ [] → SpellsChar c bs
  unit : {c : ℕ} {bs ds : List ℕ} → IsUnit ds c → IsScalar c → bs ≡ 0x5C ∷ 0x75 ∷ ds → SpellsChar c bs
  pair : {c u v : ℕ} {bs : List ℕ} (ds es : List ℕ) → IsUnit ds u → IsTrue (is_high_surrogate u) → IsUnit es v → IsTrue (is_low_surrogate v) → c ≡ surrogate_pair_char u v → bs ≡ 0x5C ∷ 0x75 ∷ ds ++ 0x5C ∷ 0x75 ∷ es → SpellsChar c bs

-- the bytes that spell characters, one after another
abbrev pub Spells : List ℕ → List ℕ → Type 0
Spells [] bs = bs ≡ []
Spells (c ∷ cs) bs = (front : List ℕ) × (others : List ℕ) × SpellsChar c front × Spells cs others × (bs ≡ front ++ others)

-- the bytes begin with a text and its closing quotation mark, behind which is the rest
abbrev pub BeginsWithText : List ℕ → List ℕ → List ℕ → Type 0
BeginsWithText bs text rest = (spelled : List ℕ) × Spells text spelled × (bs ≡ spelled ++ 0x22 ∷ rest)

-- Reading it from the left.

-- a byte of a character behind its first one: UTF8-tail
abbrev pub tail_at : List ℕ → Read ℕ
tail_at = byte_in 0x80 0xBF

-- the rest of a character in two, three and four bytes (RFC 3629, section 4)
unfoldable pub two_at : ℕ → List ℕ → Read ℕ
two_at b bs = do
  c ← tail_at bs
  Ok ((b - 0xC0) * 64 + (c.0 - 0x80), c.1)

unfoldable pub three_at : ℕ → List ℕ → Read ℕ
three_at b bs = do
  c ← byte_in (second_byte_min b) (second_byte_max b) bs
  d ← tail_at c.1
  Ok (((b - 0xE0) * 64 + (c.0 - 0x80)) * 64 + (d.0 - 0x80), d.1)

unfoldable pub four_at : ℕ → List ℕ → Read ℕ
four_at b bs = do
  c ← byte_in (second_byte_min b) (second_byte_max b) bs
  d ← tail_at c.1
  e ← tail_at d.1
  Ok ((((b - 0xF0) * 64 + (c.0 - 0x80)) * 64 + (d.0 - 0x80)) * 64 + (e.0 - 0x80), e.1)

-- a character in UTF-8 from the blank on
unfoldable pub utf8_at : List ℕ → Read ℕ
utf8_at [] = Err (Syntax 0)
utf8_at (b ∷ bs) =
    if is_in_range 0x20 0x7F b then Ok (b, bs) else
    (if is_in_range 0xC2 0xDF b then two_at b bs else
    (if is_in_range 0xE0 0xEF b then three_at b bs else
    (if is_in_range 0xF0 0xF4 b then four_at b bs else Err (Syntax (length (b ∷ bs))))))

-- a hexadecimal digit whose value is in this range
unfoldable pub hex_in : ℕ → ℕ → List ℕ → Read ℕ
hex_in low high [] = Err (Syntax 0)
hex_in low high (b ∷ bs) = if is_in_range low high (digit_value b) then Ok (digit_value b, bs) else Err (Syntax (length (b ∷ bs)))

-- the second half of a surrogate pair, which is due behind the first
unfoldable pub low_half_at : ℕ → List ℕ → Read ℕ
low_half_at high bs = do
  a ← byte_in 0x5C 0x5C bs
  b ← byte_in 0x75 0x75 a.1
  c ← hex_in 13 13 b.1
  d ← hex_in 12 15 c.1
  e ← hex_in 0 15 d.1
  f ← hex_in 0 15 e.1
  Ok (surrogate_pair_char high (((c.0 * 16 + d.0) * 16 + e.0) * 16 + f.0), f.1)

-- the digits behind `\u`, which don't begin with the second half of a pair
unfoldable pub unit_at : List ℕ → Read ℕ
unit_at bs = do
  a ← hex_in 0 15 bs
  b ← hex_in 0 (if a.0 == 13 then 11 else 15) a.1
  c ← hex_in 0 15 b.1
  d ← hex_in 0 15 c.1
  Ok (((a.0 * 16 + b.0) * 16 + c.0) * 16 + d.0, d.1)

unfoldable pub unicode_at : List ℕ → Read ℕ
unicode_at bs = do
  u ← unit_at bs
  if is_high_surrogate u.0 then low_half_at u.0 u.1 else Ok u

-- what is behind a backslash
unfoldable pub escape_at : List ℕ → Read ℕ
escape_at [] = Err (Syntax 0)
escape_at (b ∷ bs) = if b == 0x75 then unicode_at bs else (do
  c ← ok_or (named_char b) (Syntax (length (b ∷ bs)))
  Ok (c, bs))

-- one character
unfoldable pub char_at : List ℕ → Read ℕ
char_at bs = if slice_index bs 0 == 0x5C then escape_at (drop 1 bs) else utf8_at bs

-- at most n characters up to the quotation mark
abbrev pub text_within : ℕ → List ℕ → Read (List ℕ)
text_within zero bs = Err (Syntax (length bs))
text_within (suc n) bs = if slice_index bs 0 == 0x22 then Ok ([], drop 1 bs) else (do
  c ← char_at bs
  cs ← text_within n c.1
  Ok (c.0 ∷ cs.0, cs.1))

-- a text up to its closing quotation mark; each character takes a byte at least
unfoldable pub text_at : List ℕ → Read (List ℕ)
text_at bs = text_within (length bs) bs

-- Runs of bytes, each of which stands for itself or is a part of a character that does.

-- the byte can't stand in a run: a control, the quotation mark, the backslash
abbrev pub ends_run : ℕ → Bool
ends_run b = nat_lt b 0x20 || b == 0x22 || b == 0x5C

-- what was read, behind these characters
abbrev pub with_front : List ℕ → Read (List ℕ) → Read (List ℕ)
with_front front read = do
  cs ← read
  Ok (front ++ cs.0, cs.1)
