-- Blanks at the ends of texts, by their bytes.
use Rattle.std.proofs.Common.{◌≡◌, ◌≢◌, ℕ, ◌<◌, ◌≤◌, length, take, subst, arith, ◌==◌, ◌||◌, true, false, List, [], ◌∷◌, ◌++◌, reverse, refl, sym, ap, ◌∙◌, lit<, ⊎_elim, Option, None, Some, Bor, if◌then◌else◌}
use Rattle.std.specs.Prelude.{encode_utf8_all, MatchOption, IfSome, IfNone}
use Rattle.std.specs.Str.{chars, IsUtf8}
use Rattle.std.proofs.lemmas.Bool.{cond-false}
use Rattle.std.proofs.lemmas.Bool.Decides.{eqb_tells}
use Rattle.std.proofs.lemmas.List.{take-append-le, take_all, reverse-append, reverse-reverse}
use Rattle.std.proofs.lemmas.Str.{chars-IsAscii, IsUtf8-from_ascii, IsUtf8-take, IsCharBoundary-at_seam, chars-append, chars_past_char, encodes-chars, encodes-append, encode_ascii}
use Rattle.std.proofs.lemmas.Str.Ascii.{IsAscii-nil, IsAscii-cons}
use Rattle.texts.specs.Blanks.{is_blank, without_first_blanks}

-- a text that begins with a character of ASCII
pub first_gone : (c : ℕ) (bs rest : List ℕ) → IsUtf8 bs → c < 128 → bs ≡ c ∷ rest → chars bs ≡ c ∷ chars rest
first_gone c bs rest u low is = chars_past_char bs rest c u (is ∙ ap (λ e. e ++ rest) (sym (encode_ascii c low)))

-- what stands before a last character of ASCII is text
front_text : (c : ℕ) (bs front : List ℕ) → IsUtf8 bs → c < 128 → bs ≡ front ++ c ∷ [] → IsUtf8 front
front_text c bs front u low is =
    let one = IsUtf8-from_ascii (c ∷ []) (IsAscii-cons c [] low IsAscii-nil) in
    let edge = IsCharBoundary-at_seam bs front (c ∷ []) is one in
    let whole : length front ≤ length front = omega arith in
    let cut : take (length front) bs ≡ front =
    ap (take (length front)) is ∙ take-append-le (length front) front (c ∷ []) whole ∙ take_all (length front) front whole in
    subst IsUtf8 cut (IsUtf8-take bs (length front) u edge)

-- a text that ends with a character of ASCII
pub last_gone : (c : ℕ) (bs rest : List ℕ) → IsUtf8 bs → c < 128 → bs ≡ rest ++ c ∷ [] → chars bs ≡ chars rest ++ c ∷ []
last_gone c bs rest u low is =
    ap chars is ∙ chars-append rest (c ∷ []) (front_text c bs rest u low is)
    ∙ ap (λ e. chars rest ++ e) (chars-IsAscii (c ∷ []) (IsAscii-cons c [] low IsAscii-nil))

-- what `strip_prefix` leaves at a blank
pub some_first : (c : ℕ) (bs : List ℕ) (r : Option (Bor (List ℕ))) → IsUtf8 bs → c < 128 → is_blank c ≡ true
    → MatchOption r ((rest : List ℕ) → bs ≢ c ∷ rest) (λ x. bs ≡ c ∷ x.now)
    → IfSome r (λ x. (d : ℕ) × (is_blank d ≡ true) × (chars bs ≡ d ∷ chars x.now))
some_first c bs None u low blank cut = tt
some_first c bs (Some x) u low blank cut = (c, blank, first_gone c bs x.now u low cut)

-- what `strip_suffix` leaves at a blank
pub some_last : (c : ℕ) (bs : List ℕ) (r : Option (Bor (List ℕ))) → IsUtf8 bs → c < 128 → is_blank c ≡ true
    → MatchOption r ((front : List ℕ) → bs ≢ front ++ c ∷ []) (λ x. bs ≡ x.now ++ c ∷ [])
    → IfSome r (λ x. (d : ℕ) × (is_blank d ≡ true) × (chars bs ≡ chars x.now ++ d ∷ []))
some_last c bs None u low blank cut = tt
some_last c bs (Some x) u low blank cut = (c, blank, last_gone c bs x.now u low cut)

no_blank : (c : ℕ) → c ≢ 32 → c ≢ 9 → is_blank c ≡ false
no_blank c space tab =
    ⊎_elim (λ (s : ((c == 32) ≡ true) × (c ≡ 32)). absurd (space s.1))
    (λ (s : ((c == 32) ≡ false) × (c ≢ 32)).
    ⊎_elim (λ (t : ((c == 9) ≡ true) × (c ≡ 9)). absurd (tab t.1))
    (λ (t : ((c == 9) ≡ false) × (c ≢ 9)). ap (λ b. b || (c == 9)) s.0 ∙ t.0) (eqb_tells c 9)) (eqb_tells c 32)

-- characters without a blank at their start lose nothing
stays : (cs : List ℕ) → ((rest : List ℕ) → cs ≢ 32 ∷ rest) → ((rest : List ℕ) → cs ≢ 9 ∷ rest) → without_first_blanks cs ≡ cs
stays [] space tab = refl
stays (c ∷ cs) space tab =
    cond-false (is_blank c) (without_first_blanks cs) (c ∷ cs)
    (no_blank c (λ e. space cs (ap (λ d. d ∷ cs) e)) (λ e. tab cs (ap (λ d. d ∷ cs) e)))

-- bytes of characters that begin with one of ASCII
begins : (c : ℕ) (bs rest : List ℕ) → IsUtf8 bs → c < 128 → chars bs ≡ c ∷ rest → bs ≡ c ∷ encode_utf8_all rest
begins c bs rest u low is = sym (encodes-chars bs u) ∙ ap encode_utf8_all is ∙ ap (λ e. e ++ encode_utf8_all rest) (encode_ascii c low)

-- and of such that end with one
ends : (c : ℕ) (bs rest : List ℕ) → IsUtf8 bs → c < 128 → reverse (chars bs) ≡ c ∷ rest → bs ≡ encode_utf8_all (reverse rest) ++ c ∷ []
ends c bs rest u low is =
    sym (encodes-chars bs u) ∙ ap encode_utf8_all (sym (reverse-reverse (chars bs)) ∙ ap reverse is ∙ reverse-append (c ∷ []) rest)
    ∙ encodes-append (reverse rest) (c ∷ []) ∙ ap (λ e. encode_utf8_all (reverse rest) ++ (e ++ [])) (encode_ascii c low)

-- without a blank at the start
pub none_first : (bs : List ℕ) (r : Option (Bor (List ℕ))) → IsUtf8 bs → ((rest : List ℕ) → bs ≢ 32 ∷ rest)
    → MatchOption r ((rest : List ℕ) → bs ≢ 9 ∷ rest) (λ x. bs ≡ 9 ∷ x.now) → IfNone r (without_first_blanks (chars bs) ≡ chars bs)
none_first bs (Some x) u space cut = tt
none_first bs None u space tab =
    stays (chars bs) (λ rest e. space _ (begins 32 bs rest u (lit< tt) e)) (λ rest e. tab _ (begins 9 bs rest u (lit< tt) e))

-- without a blank at the end
pub none_last : (bs : List ℕ) (r : Option (Bor (List ℕ))) → IsUtf8 bs → ((front : List ℕ) → bs ≢ front ++ 32 ∷ [])
    → MatchOption r ((front : List ℕ) → bs ≢ front ++ 9 ∷ []) (λ x. bs ≡ x.now ++ 9 ∷ []) → IfNone r (without_first_blanks (reverse (chars bs)) ≡ reverse (chars bs))
none_last bs (Some x) u space cut = tt
none_last bs None u space tab =
    stays (reverse (chars bs)) (λ rest e. space _ (ends 32 bs rest u (lit< tt) e)) (λ rest e. tab _ (ends 9 bs rest u (lit< tt) e))

-- a blank at the start counts for nothing
pub without_blank : (c : ℕ) (cs rest : List ℕ) → is_blank c ≡ true → cs ≡ c ∷ rest → without_first_blanks cs ≡ without_first_blanks rest
without_blank c cs rest blank is = ap without_first_blanks is ∙ ap (λ b. if b then without_first_blanks rest else c ∷ rest) blank

-- nor does one at the end
pub without_last_blank : (c : ℕ) (cs front : List ℕ) → is_blank c ≡ true → cs ≡ front ++ c ∷ [] → without_first_blanks (reverse cs) ≡ without_first_blanks (reverse front)
without_last_blank c cs front blank is = without_blank c (reverse cs) (reverse front) blank (ap reverse is ∙ reverse-append front (c ∷ []))
