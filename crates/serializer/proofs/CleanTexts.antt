-- Texts without control characters of ASCII.
use Rattle.std.proofs.Common.{◌≡◌, ◌⊎◌, ⊎_elim, ℕ, zero, suc, ◌/◌, ◌%◌, ◌==◌, ◌<◌, ◌≤◌, Bool, true, false, not, ◌||◌, List, [], ◌∷◌, refl, sym, ap, ◌∙◌, if◌then◌else◌, arith}
use Rattle.std.specs.Prelude.{nat_eq, encode_utf8, encode_utf8_all}
use Rattle.std.specs.Cmp.Derive.{both_true}
use Rattle.std.specs.Fmt.{decimal, digits, digits_onto, digit_glyph}
use Rattle.std.specs.List.{list_all}
use Rattle.std.proofs.lemmas.Bool.{agree_below, agree_below_at, and_parts, cases_lt, eqb-true, false_from_ne_true, le-leb, not_from_false}
use Rattle.std.proofs.lemmas.List.Folds.{list_all-append}
use Rattle.std.proofs.lemmas.Str.{encode_ascii}
use Rattle.serializer.specs.HeaderNames.{is_header_byte}
use Rattle.serializer.specs.Laws.{is_clean}

implied : (a b : Bool) → (not a || b) ≡ true → a ≡ true → b ≡ true
implied true b h holds = h
implied false b h holds = cc

-- of the characters of ASCII only such pass the test
abbrev pub Implies : (ℕ → Bool) → Type 0
Implies p = agree_below (λ c. not (p c) || is_header_byte c) (λ c. true) 128 ≡ true

high : (c : ℕ) → 128 ≤ c → is_header_byte c ≡ true
high c h =
    both_true (le-leb 32 c (omega (arith, h)))
    (not_from_false (nat_eq c 127) (false_from_ne_true (nat_eq c 127) (λ e. omega (arith, h, eqb-true c 127 e))))

clean_character : (p : ℕ → Bool) → Implies p → (c : ℕ) → p c ≡ true → is_header_byte c ≡ true
clean_character p all c holds =
    ⊎_elim
    (λ low. implied (p c) (is_header_byte c) (agree_below_at (λ d. not (p d) || is_header_byte d) (λ d. true) 128 c all low) holds)
    (high c) (cases_lt c 128)

pub clean_from : (p : ℕ → Bool) → Implies p → (text : List ℕ) → list_all p text ≡ true → is_clean text ≡ true
clean_from p all [] h = refl
clean_from p all (c ∷ cs) h =
    let parts = and_parts (p c) (list_all p cs) h in
    both_true (clean_character p all c parts.0) (clean_from p all cs parts.1)

byte_of : (p : ℕ → Bool) (c : ℕ) → c < 128 → list_all p (encode_utf8 c) ≡ true → p c ≡ true
byte_of p c low h = (and_parts (p c) true (sym (ap (list_all p) (encode_ascii c low)) ∙ h)).0

-- a text is clean where its bytes in UTF-8 pass
pub clean_bytes : (p : ℕ → Bool) → Implies p → (text : List ℕ) → list_all p (encode_utf8_all text) ≡ true → is_clean text ≡ true
clean_bytes p all [] h = refl
clean_bytes p all (c ∷ cs) h =
    let parts =
    and_parts (list_all p (encode_utf8 c)) (list_all p (encode_utf8_all cs)) (sym (list_all-append p (encode_utf8 c) (encode_utf8_all cs)) ∙ h) in
    both_true (⊎_elim (λ low. clean_character p all c (byte_of p c low parts.0)) (high c) (cases_lt c 128)) (clean_bytes p all cs parts.1)

pub clean_either : (b : Bool) (xs ys : List ℕ) → is_clean xs ≡ true → is_clean ys ≡ true → is_clean (if b then xs else ys) ≡ true
clean_either true xs ys h k = h
clean_either false xs ys h k = k

all_glyphs : agree_below (λ d. is_header_byte (digit_glyph false d)) (λ d. true) 10 ≡ true
all_glyphs = refl

clean_glyph : (n : ℕ) → is_header_byte (digit_glyph false (n % 10)) ≡ true
clean_glyph n = agree_below_at (λ d. is_header_byte (digit_glyph false d)) (λ d. true) 10 (n % 10) all_glyphs (omega arith)

clean_digits : (k n : ℕ) (behind : List ℕ) → is_clean behind ≡ true → is_clean (digits_onto k 10 false n behind) ≡ true
clean_digits zero n behind h = h
clean_digits (suc k) n behind h =
    let more = digit_glyph false (n % 10) ∷ behind in
    let clean : is_clean more ≡ true = both_true (clean_glyph n) h in
    clean_either (n / 10 == 0) more (digits_onto k 10 false (n / 10) more) clean (clean_digits k (n / 10) more clean)

pub clean_decimal : (n : ℕ) → is_clean (decimal n) ≡ true
unfolding digits
clean_decimal n = clean_digits 64 n [] refl
