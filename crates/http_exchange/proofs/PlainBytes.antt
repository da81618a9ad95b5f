-- Texts by their bytes, in ASCII and past it.
use Rattle.std.proofs.Common.{◌≡◌, inl, inr, ℕ, zero, suc, ◌/◌, ◌%◌, ◌==◌, ◌<◌, ◌≤◌, Bool, true, false, nat_lt, List, [], ◌∷◌, ◌++◌, length, reverse, get_or, append-nil, refl, sym, ap, ◌∙◌, if◌then◌else◌, arith}
use Rattle.std.specs.Prelude.{nat_le, nat_eq, encode_utf8, encode_utf8_all}
use Rattle.std.specs.Cmp.Derive.{both_true}
use Rattle.std.specs.Fmt.{decimal, digits, digits_onto, digit_glyph}
use Rattle.std.specs.List.{All, list_all}
use Rattle.std.specs.Str.{IsUtf8}
use Rattle.std.proofs.lemmas.Bool.{agree_below, agree_below_at, and_parts, cases_lt, eqb-true, false_from_ne_true, le-leb, lt-ltb, ltb-true, leb-true, not_from_false, or_from, or_right}
use Rattle.std.proofs.lemmas.Bool.Decides.{nat_tests}
use Rattle.std.proofs.lemmas.List.Elements.{All-nil, All-cons}
use Rattle.std.proofs.lemmas.List.Folds.{list_all-append}
use Rattle.std.proofs.lemmas.List.Sums.{AllPass-from_list_all, list_all-from_AllPass}
use Rattle.std.proofs.lemmas.Str.{encode_ascii, inside_one, length-encode, len_utf8_bounds, IsUtf8-from_ascii}
use Rattle.std.proofs.lemmas.Str.Ascii.{IsAscii-from_all}
use Rattle.httparse.specs.Grammar.{is_token_byte, is_uri_byte, is_value_byte, is_token, is_ows, skip_ows, trim_ows}
use Rattle.httparse.proofs.TrimLemmas.{AllPass-reverse, trim_ows_space}
use Rattle.uri_texts.specs.Visible.{is_visible}
use Rattle.http_exchange.specs.ReadBack.{is_field_character}

-- ---- tests of each character

pub each_so : (p q : ℕ → Bool) → ((c : ℕ) → p c ≡ true → q c ≡ true) → (cs : List ℕ) → list_all p cs ≡ true → list_all q cs ≡ true
each_so p q so [] h = refl
each_so p q so (c ∷ cs) h = let parts = and_parts (p c) (list_all p cs) h in both_true (so c parts.0) (each_so p q so cs parts.1)

-- ---- ASCII

abbrev pub is_ascii : ℕ → Bool
is_ascii c = nat_lt c 128

pub same_bytes : (cs : List ℕ) → list_all is_ascii cs ≡ true → encode_utf8_all cs ≡ cs
same_bytes [] h = refl
same_bytes (c ∷ cs) h =
    let parts = and_parts (is_ascii c) (list_all is_ascii cs) h in
    ap (λ e. e ++ encode_utf8_all cs) (encode_ascii c (ltb-true c 128 parts.0)) ∙ ap (λ s. c ∷ s) (same_bytes cs parts.1)

all_low : (cs : List ℕ) → list_all is_ascii cs ≡ true → All (λ b. b < 128) cs
all_low [] h = All-nil (λ b. b < 128)
all_low (c ∷ cs) h =
    let parts = and_parts (is_ascii c) (list_all is_ascii cs) h in
    All-cons (λ b. b < 128) c cs (ltb-true c 128 parts.0) (all_low cs parts.1)

pub utf8_from : (cs : List ℕ) → list_all is_ascii cs ≡ true → IsUtf8 cs
utf8_from cs h = IsUtf8-from_ascii cs (IsAscii-from_all cs (all_low cs h))

visible_low : (c : ℕ) → is_visible c ≡ true → is_ascii c ≡ true
visible_low c h = let top = ltb-true c 127 (and_parts (nat_lt 32 c) (nat_lt c 127) h).1 in lt-ltb c 128 (omega arith)

visible_uri : (c : ℕ) → is_visible c ≡ true → is_uri_byte c ≡ true
visible_uri c h =
    let parts = and_parts (nat_lt 32 c) (nat_lt c 127) h in
    let top = ltb-true c 127 parts.1 in
    both_true parts.0 (not_from_false (c == 127) (false_from_ne_true (c == 127) (λ e. omega (arith, top, eqb-true c 127 e))))

pub visible_ascii : (cs : List ℕ) → list_all is_visible cs ≡ true → list_all is_ascii cs ≡ true
visible_ascii cs h = each_so is_visible is_ascii visible_low cs h

pub visible_uris : (cs : List ℕ) → list_all is_visible cs ≡ true → list_all is_uri_byte cs ≡ true
visible_uris cs h = each_so is_visible is_uri_byte visible_uri cs h

-- ---- past ASCII

is_high : ℕ → Bool
is_high b = nat_le 128 b

all_high : (bytes : List ℕ) → ((k : ℕ) → k < length bytes → 128 ≤ get_or bytes k 0) → list_all is_high bytes ≡ true
unfolding is_high
all_high [] each = refl
all_high (b ∷ bytes) each = both_true (le-leb 128 b (each 0 (omega arith))) (all_high bytes (λ k below. each (suc k) (omega arith)))

-- the bytes of a character past ASCII are past it too
high_bytes : (c : ℕ) → 128 ≤ c → list_all is_high (encode_utf8 c) ≡ true
high_bytes c past =
    all_high (encode_utf8 c)
    (λ k below. elim (cases_lt (get_or (encode_utf8 c) k 0) 128) [
      | inl low ↦ let same = inside_one c [] (encode_utf8 c) k (sym (append-nil (encode_utf8 c))) below low in absurd (omega (arith, same, past, low))
      | inr high ↦ high
    ])

first_passes : (p : ℕ → Bool) (bytes : List ℕ) → 0 < length bytes → list_all p bytes ≡ true → p (get_or bytes 0 0) ≡ true
first_passes p [] some h = absurd (omega arith)
first_passes p (b ∷ bytes) some h = (and_parts (p b) (list_all p bytes) h).0

-- ---- tokens

token_low : (b : ℕ) → is_token_byte b ≡ true → b < 128
unfolding is_token_byte
token_low b token = grind (arith, nat_tests)

token_character : (c : ℕ) → list_all is_token_byte (encode_utf8 c) ≡ true → c < 128
unfolding is_high
token_character c h = elim (cases_lt c 128) [
  | inl low ↦ low
  | inr past ↦
      let some : 0 < length (encode_utf8 c) = omega (arith, length-encode c, (len_utf8_bounds c).0) in
      let low = token_low (get_or (encode_utf8 c) 0 0) (first_passes is_token_byte (encode_utf8 c) some h) in
      let high = leb-true 128 (get_or (encode_utf8 c) 0 0) (first_passes is_high (encode_utf8 c) some (high_bytes c past)) in
      absurd (omega (arith, low, high))
]

-- a token is its own bytes
token_same : (cs : List ℕ) → list_all is_token_byte (encode_utf8_all cs) ≡ true → encode_utf8_all cs ≡ cs
token_same [] h = refl
token_same (c ∷ cs) h =
    let parts = and_parts (list_all is_token_byte (encode_utf8 c)) (list_all is_token_byte (encode_utf8_all cs)) (sym (list_all-append is_token_byte (encode_utf8 c) (encode_utf8_all cs)) ∙ h) in
    ap (λ e. e ++ encode_utf8_all cs) (encode_ascii c (token_character c parts.0)) ∙ ap (λ s. c ∷ s) (token_same cs parts.1)

pub name_same : (name : List ℕ) → is_token (encode_utf8_all name) ≡ true → encode_utf8_all name ≡ name
name_same name h = token_same name (and_parts (nat_lt 0 (length (encode_utf8_all name))) (list_all is_token_byte (encode_utf8_all name)) h).1

-- ---- values of fields

high_value : (b : ℕ) → is_high b ≡ true → is_value_byte b ≡ true
unfolding is_high
high_value b h = let past = leb-true 128 b h in grind (arith, nat_tests)

field_value : (c : ℕ) → is_field_character c ≡ true → is_value_byte c ≡ true
field_value c h = or_right (c == 9) (is_field_character c) h

character_bytes : (c : ℕ) → is_field_character c ≡ true → list_all is_value_byte (encode_utf8 c) ≡ true
character_bytes c h = elim (cases_lt c 128) [
  | inl low ↦ ap (list_all is_value_byte) (encode_ascii c low) ∙ both_true (field_value c h) refl
  | inr past ↦ each_so is_high is_value_byte high_value (encode_utf8 c) (high_bytes c past)
]

pub value_bytes : (cs : List ℕ) → list_all is_field_character cs ≡ true → list_all is_value_byte (encode_utf8_all cs) ≡ true
value_bytes [] h = refl
value_bytes (c ∷ cs) h =
    let parts = and_parts (is_field_character c) (list_all is_field_character cs) h in
    list_all-append is_value_byte (encode_utf8 c) (encode_utf8_all cs) ∙ both_true (character_bytes c parts.0) (value_bytes cs parts.1)

-- ---- digits

all_glyphs : agree_below (λ d. is_visible (digit_glyph false d)) (λ d. true) 10 ≡ true
all_glyphs = refl

visible_glyph : (n : ℕ) → is_visible (digit_glyph false (n % 10)) ≡ true
visible_glyph n = agree_below_at (λ d. is_visible (digit_glyph false d)) (λ d. true) 10 (n % 10) all_glyphs (omega arith)

either_visible : (b : Bool) (xs ys : List ℕ) → list_all is_visible xs ≡ true → list_all is_visible ys ≡ true
    → list_all is_visible (if b then xs else ys) ≡ true
either_visible true xs ys h k = h
either_visible false xs ys h k = k

visible_digits : (k n : ℕ) (behind : List ℕ) → list_all is_visible behind ≡ true → list_all is_visible (digits_onto k 10 false n behind) ≡ true
visible_digits zero n behind h = h
visible_digits (suc k) n behind h =
    let more = digit_glyph false (n % 10) ∷ behind in
    let visible : list_all is_visible more ≡ true = both_true (visible_glyph n) h in
    either_visible (n / 10 == 0) more (digits_onto k 10 false (n / 10) more) visible (visible_digits k (n / 10) more visible)

pub visible_decimal : (n : ℕ) → list_all is_visible (decimal n) ≡ true
unfolding digits
visible_decimal n = visible_digits 64 n [] refl

visible_field : (c : ℕ) → is_visible c ≡ true → is_field_character c ≡ true
visible_field c h =
    let parts = and_parts (nat_lt 32 c) (nat_lt c 127) h in
    let low = ltb-true 32 c parts.0 in
    let top = ltb-true c 127 parts.1 in
    both_true (le-leb 32 c (omega (arith, low))) (not_from_false (nat_eq c 127) (false_from_ne_true (nat_eq c 127) (λ e. omega (arith, top, eqb-true c 127 e))))

pub clean_decimal : (n : ℕ) → list_all is_field_character (decimal n) ≡ true
clean_decimal n = each_so is_visible is_field_character visible_field (decimal n) (visible_decimal n)

-- ---- blanks

not_ows : (c : ℕ) → is_visible c ≡ true → is_ows c ≡ false
not_ows c h =
    let low = ltb-true 32 c (and_parts (nat_lt 32 c) (nat_lt c 127) h).0 in
    or_from (c == 32) (c == 9) (false_from_ne_true (c == 32) (λ e. omega (arith, low, eqb-true c 32 e)))
    (false_from_ne_true (c == 9) (λ e. omega (arith, low, eqb-true c 9 e)))

kept_whole : (cs : List ℕ) → list_all is_visible cs ≡ true → skip_ows cs ≡ cs
kept_whole [] h = refl
kept_whole (c ∷ cs) h = ap (λ t. if t then skip_ows cs else c ∷ cs) (not_ows c (and_parts (is_visible c) (list_all is_visible cs) h).0)

turned : (cs : List ℕ) → list_all is_visible cs ≡ true → list_all is_visible (reverse cs) ≡ true
turned cs h = list_all-from_AllPass is_visible (reverse cs) (AllPass-reverse is_visible cs (AllPass-from_list_all is_visible cs h))

-- the blank that is written before a value is one around it
pub trim_behind : (bytes : List ℕ) → trim_ows (32 ∷ bytes) ≡ trim_ows bytes
unfolding trim_ows
trim_behind bytes = refl

-- nothing is cut off where nothing is blank
pub trim_same : (cs : List ℕ) → list_all is_visible cs ≡ true → trim_ows cs ≡ cs
trim_same cs h = sym (trim_behind cs) ∙ trim_ows_space cs (kept_whole cs h) (kept_whole (reverse cs) (turned cs h))
