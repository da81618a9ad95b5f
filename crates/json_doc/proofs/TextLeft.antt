-- What is behind a text, or left at its fault, is no longer than the bytes.
use Rattle.std.proofs.Common.{◌==◌, ℕ, zero, suc, ◌≤◌, if◌then◌else◌, List, [], ◌∷◌, length, drop, Option, Some, None, Ok, Err, arith, length-drop}
use Rattle.std.specs.Int.{is_in_range}
use Rattle.std.specs.Option.{ok_or}
use Rattle.std.specs.Char.{digit_value}
use Rattle.std.specs.Char.Utf16.{is_high_surrogate}
use Rattle.std.specs.Str.Lossy.{second_byte_min, second_byte_max}
use Rattle.json_doc.specs.declared.stop.Stop.TheVariants.{Syntax}
use Rattle.json_doc.specs.Reading.{Read, byte_in}
use Rattle.texts.specs.Calls.{◌>>=◌}
use Rattle.json_doc.specs.TextToken.{tail_at, two_at, three_at, four_at, utf8_at, hex_in, low_half_at, unit_at, unicode_at, named_char, escape_at, char_at, text_within, text_at}
use Rattle.json_doc.proofs.Within.{Within, either, wider, bind-within}

pub byte_in-within : (low high : ℕ) (bs : List ℕ) → Within bs (byte_in low high bs)
unfolding byte_in
byte_in-within low high [] = omega arith
byte_in-within low high (b ∷ bs) = either (Within (b ∷ bs)) (is_in_range low high b) (Ok (b, bs)) (Err (Syntax (length (b ∷ bs)))) (omega arith) (omega arith)

pub two_at-within : (b : ℕ) (bs : List ℕ) → Within bs (two_at b bs)
unfolding two_at
two_at-within b bs = bind-within bs (tail_at bs) _ (byte_in-within 0x80 0xBF bs) (λ c. omega arith)

pub three_at-within : (b : ℕ) (bs : List ℕ) → Within bs (three_at b bs)
unfolding three_at
three_at-within b bs =
    bind-within bs (byte_in (second_byte_min b) (second_byte_max b) bs) _ (byte_in-within (second_byte_min b) (second_byte_max b) bs)
    (λ c. bind-within c.1 (tail_at c.1) _ (byte_in-within 0x80 0xBF c.1) (λ d. omega arith))

pub four_at-within : (b : ℕ) (bs : List ℕ) → Within bs (four_at b bs)
unfolding four_at
four_at-within b bs =
    bind-within bs (byte_in (second_byte_min b) (second_byte_max b) bs) _ (byte_in-within (second_byte_min b) (second_byte_max b) bs)
    (λ c. bind-within c.1 (tail_at c.1) _ (byte_in-within 0x80 0xBF c.1) (λ d. bind-within d.1 (tail_at d.1) _ (byte_in-within 0x80 0xBF d.1) (λ e. omega arith)))

pub utf8_at-within : (bs : List ℕ) → Within bs (utf8_at bs)
unfolding utf8_at
utf8_at-within [] = omega arith
utf8_at-within (b ∷ bs) =
    let P : Read ℕ → Type 0 = Within (b ∷ bs) in
    let more : length bs ≤ length (b ∷ bs) = omega arith in
    either P (is_in_range 0x20 0x7F b) _ _ (omega arith)
    (either P (is_in_range 0xC2 0xDF b) _ _ (wider bs (b ∷ bs) (two_at b bs) more (two_at-within b bs))
    (either P (is_in_range 0xE0 0xEF b) _ _ (wider bs (b ∷ bs) (three_at b bs) more (three_at-within b bs))
    (either P (is_in_range 0xF0 0xF4 b) _ _ (wider bs (b ∷ bs) (four_at b bs) more (four_at-within b bs)) (omega arith))))

pub hex_in-within : (low high : ℕ) (bs : List ℕ) → Within bs (hex_in low high bs)
unfolding hex_in
hex_in-within low high [] = omega arith
hex_in-within low high (b ∷ bs) =
    either (Within (b ∷ bs)) (is_in_range low high (digit_value b)) (Ok (digit_value b, bs)) (Err (Syntax (length (b ∷ bs)))) (omega arith) (omega arith)

pub low_half_at-within : (high : ℕ) (bs : List ℕ) → Within bs (low_half_at high bs)
unfolding low_half_at
low_half_at-within high bs =
    bind-within bs _ _ (byte_in-within 0x5C 0x5C bs) (λ a. bind-within a.1 _ _ (byte_in-within 0x75 0x75 a.1) (λ b.
    bind-within b.1 _ _ (hex_in-within 13 13 b.1) (λ c. bind-within c.1 _ _ (hex_in-within 12 15 c.1) (λ d.
    bind-within d.1 _ _ (hex_in-within 0 15 d.1) (λ e. bind-within e.1 _ _ (hex_in-within 0 15 e.1) (λ f. omega arith))))))

pub unit_at-within : (bs : List ℕ) → Within bs (unit_at bs)
unfolding unit_at
unit_at-within bs =
    bind-within bs _ _ (hex_in-within 0 15 bs) (λ a. bind-within a.1 _ _ (hex_in-within 0 (if a.0 == 13 then 11 else 15) a.1) (λ b.
    bind-within b.1 _ _ (hex_in-within 0 15 b.1) (λ c. bind-within c.1 _ _ (hex_in-within 0 15 c.1) (λ d. omega arith))))

pub unicode_at-within : (bs : List ℕ) → Within bs (unicode_at bs)
unfolding unicode_at
unicode_at-within bs =
    bind-within bs (unit_at bs) _ (unit_at-within bs) (λ u.
    either (Within u.1) (is_high_surrogate u.0) (low_half_at u.0 u.1) (Ok u) (low_half_at-within u.0 u.1) (omega arith))

pub named-within : (o : Option ℕ) (b : ℕ) (bs : List ℕ) → Within (b ∷ bs) (ok_or o (Syntax (length (b ∷ bs))) >>= (λ c. Ok (c, bs)))
named-within (Some c) b bs = omega arith
named-within None b bs = omega arith

pub escape_at-within : (bs : List ℕ) → Within bs (escape_at bs)
unfolding escape_at
escape_at-within [] = omega arith
escape_at-within (b ∷ bs) =
    either (Within (b ∷ bs)) (b == 0x75) _ _ (wider bs (b ∷ bs) (unicode_at bs) (omega arith) (unicode_at-within bs)) (named-within (named_char b) b bs)

pub char_at-within : (bs : List ℕ) → Within bs (char_at bs)
unfolding char_at
char_at-within bs =
    either (Within bs) _ (escape_at (drop 1 bs)) (utf8_at bs) (wider (drop 1 bs) bs (escape_at (drop 1 bs)) (omega (arith, length-drop 1 bs)) (escape_at-within (drop 1 bs))) (utf8_at-within bs)

pub text_within-within : (n : ℕ) (bs : List ℕ) → Within bs (text_within n bs)
text_within-within zero bs = omega arith
text_within-within (suc n) bs =
    either (Within bs) _ (Ok ([], drop 1 bs)) _ (omega (arith, length-drop 1 bs))
    (bind-within bs (char_at bs) _ (char_at-within bs) (λ c. bind-within c.1 (text_within n c.1) _ (text_within-within n c.1) (λ cs. omega arith)))

pub text_at-within : (bs : List ℕ) → Within bs (text_at bs)
unfolding text_at
text_at-within bs = text_within-within (length bs) bs
