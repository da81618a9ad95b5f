-- What reading a text finds before a place depends on the bytes up to that place alone.
use Rattle.std.proofs.Common.{◌==◌, ℕ, zero, suc, ◌+◌, if◌then◌else◌, List, [], ◌∷◌, ◌++◌, length, Option, Some, None, Ok, refl, sym, subst, arith}
use Rattle.std.specs.Int.{is_in_range}
use Rattle.std.specs.Option.{ok_or}
use Rattle.std.specs.Char.{digit_value}
use Rattle.std.specs.Char.Utf16.{is_high_surrogate}
use Rattle.std.specs.Str.Lossy.{second_byte_min, second_byte_max}
use Rattle.json_doc.specs.declared.stop.Stop.TheVariants.{Syntax}
use Rattle.json_doc.specs.Reading.{byte_in}
use Rattle.texts.specs.Calls.{◌>>=◌}
use Rattle.json_doc.specs.TextToken.{two_at, three_at, four_at, utf8_at, hex_in, low_half_at, unit_at, unicode_at, named_char, escape_at, char_at, text_within, text_at}
use Rattle.json_doc.proofs.Within.{Within, either, bind-within}
use Rattle.json_doc.proofs.TextLeft.{byte_in-within, hex_in-within, two_at-within, three_at-within, four_at-within, low_half_at-within, unicode_at-within, escape_at-within, text_within-within}
use Rattle.json_doc.proofs.TextSteps.{text_within-same}
use Rattle.json_doc.proofs.Local.{Ways, rest, more, Early, Moves, Local, fault-moves, choice-moves, bind-moves, too_late}

-- a value given as it is, with what is behind it
kept : {A : Type 0} (a : A) → Local (λ bs. Ok (a, bs))
kept a w front early = (front, refl, refl)

byte_in-local : (low high : ℕ) → Local (byte_in low high)
unfolding byte_in
byte_in-local low high w [] early =
    choice-moves w (is_in_range low high w.first) (Ok (w.first, w.others)) _ _ _ (λ e. absurd (omega arith)) (λ e. fault-moves w []) early
byte_in-local low high w (a ∷ us) early =
    choice-moves w (is_in_range low high a) (Ok (a, us ++ rest w)) _ _ _ (λ e. (us, refl, refl)) (λ e. fault-moves w (a ∷ us)) early

hex_in-local : (low high : ℕ) → Local (hex_in low high)
unfolding hex_in
hex_in-local low high w [] early =
    choice-moves w (is_in_range low high (digit_value w.first)) (Ok (digit_value w.first, w.others)) _ _ _ (λ e. absurd (omega arith)) (λ e. fault-moves w []) early
hex_in-local low high w (a ∷ us) early =
    choice-moves w (is_in_range low high (digit_value a)) (Ok (digit_value a, us ++ rest w)) _ _ _ (λ e. (us, refl, refl)) (λ e. fault-moves w (a ∷ us)) early

two_at-local : (b : ℕ) → Local (two_at b)
unfolding two_at
two_at-local b w front early = bind-moves w _ _ _ (byte_in-local 0x80 0xBF w front) (λ c. omega arith) (λ c. kept _) early

three_at-local : (b : ℕ) → Local (three_at b)
unfolding three_at
three_at-local b w front early =
    bind-moves w _ _ _ (byte_in-local (second_byte_min b) (second_byte_max b) w front) (λ c. bind-within c.1 _ _ (byte_in-within 0x80 0xBF c.1) (λ d. omega arith))
    (λ c w front early. bind-moves w _ _ _ (byte_in-local 0x80 0xBF w front) (λ d. omega arith) (λ d. kept _) early) early

four_at-local : (b : ℕ) → Local (four_at b)
unfolding four_at
four_at-local b w front early =
    bind-moves w _ _ _ (byte_in-local (second_byte_min b) (second_byte_max b) w front)
    (λ c. bind-within c.1 _ _ (byte_in-within 0x80 0xBF c.1) (λ d. bind-within d.1 _ _ (byte_in-within 0x80 0xBF d.1) (λ e. omega arith)))
    (λ c w front early. bind-moves w _ _ _ (byte_in-local 0x80 0xBF w front) (λ d. bind-within d.1 _ _ (byte_in-within 0x80 0xBF d.1) (λ e. omega arith))
    (λ d w front early. bind-moves w _ _ _ (byte_in-local 0x80 0xBF w front) (λ e. omega arith) (λ e. kept _) early) early) early

utf8_at-local : Local utf8_at
unfolding utf8_at
utf8_at-local w [] early =
    choice-moves w (is_in_range 0x20 0x7F w.first) (Ok (w.first, w.others)) _ _ _ (λ e. absurd (omega arith))
    (choice-moves w (is_in_range 0xC2 0xDF w.first) (two_at w.first w.others) _ _ _ (too_late w _ _ (two_at-within w.first w.others))
    (choice-moves w (is_in_range 0xE0 0xEF w.first) (three_at w.first w.others) _ _ _ (too_late w _ _ (three_at-within w.first w.others))
    (choice-moves w (is_in_range 0xF0 0xF4 w.first) (four_at w.first w.others) _ _ _ (too_late w _ _ (four_at-within w.first w.others)) (λ e. fault-moves w [])))) early
utf8_at-local w (a ∷ us) early =
    choice-moves w (is_in_range 0x20 0x7F a) (Ok (a, us ++ rest w)) _ _ _ (λ e. (us, refl, refl))
    (choice-moves w (is_in_range 0xC2 0xDF a) _ _ _ _ (two_at-local a w us)
    (choice-moves w (is_in_range 0xE0 0xEF a) _ _ _ _ (three_at-local a w us)
    (choice-moves w (is_in_range 0xF0 0xF4 a) _ _ _ _ (four_at-local a w us) (λ e. fault-moves w (a ∷ us))))) early

low_half_at-local : (high : ℕ) → Local (low_half_at high)
unfolding low_half_at
low_half_at-local high w front early =
    bind-moves w _ _ _ (byte_in-local 0x5C 0x5C w front) (λ a. bind-within a.1 _ _ (byte_in-within 0x75 0x75 a.1) (λ b. bind-within b.1 _ _ (hex_in-within 13 13 b.1) (λ c. bind-within c.1 _ _ (hex_in-within 12 15 c.1)
    (λ d. bind-within d.1 _ _ (hex_in-within 0 15 d.1) (λ e. bind-within e.1 _ _ (hex_in-within 0 15 e.1) (λ f. omega arith))))))
    (λ a w front early. bind-moves w _ _ _ (byte_in-local 0x75 0x75 w front) (λ b. bind-within b.1 _ _ (hex_in-within 13 13 b.1) (λ c. bind-within c.1 _ _ (hex_in-within 12 15 c.1)
    (λ d. bind-within d.1 _ _ (hex_in-within 0 15 d.1) (λ e. bind-within e.1 _ _ (hex_in-within 0 15 e.1) (λ f. omega arith)))))
    (λ b w front early. bind-moves w _ _ _ (hex_in-local 13 13 w front)
    (λ c. bind-within c.1 _ _ (hex_in-within 12 15 c.1) (λ d. bind-within d.1 _ _ (hex_in-within 0 15 d.1) (λ e. bind-within e.1 _ _ (hex_in-within 0 15 e.1) (λ f. omega arith))))
    (λ c w front early. bind-moves w _ _ _ (hex_in-local 12 15 w front) (λ d. bind-within d.1 _ _ (hex_in-within 0 15 d.1) (λ e. bind-within e.1 _ _ (hex_in-within 0 15 e.1) (λ f. omega arith)))
    (λ d w front early. bind-moves w _ _ _ (hex_in-local 0 15 w front) (λ e. bind-within e.1 _ _ (hex_in-within 0 15 e.1) (λ f. omega arith))
    (λ e w front early. bind-moves w _ _ _ (hex_in-local 0 15 w front) (λ f. omega arith) (λ f. kept _) early) early) early) early) early) early

unit_at-local : Local unit_at
unfolding unit_at
unit_at-local w front early =
    bind-moves w _ _ _ (hex_in-local 0 15 w front)
    (λ a. bind-within a.1 _ _ (hex_in-within 0 (if a.0 == 13 then 11 else 15) a.1) (λ b. bind-within b.1 _ _ (hex_in-within 0 15 b.1) (λ c. bind-within c.1 _ _ (hex_in-within 0 15 c.1) (λ d. omega arith))))
    (λ a w front early. bind-moves w _ _ _ (hex_in-local 0 (if a == 13 then 11 else 15) w front) (λ b. bind-within b.1 _ _ (hex_in-within 0 15 b.1) (λ c. bind-within c.1 _ _ (hex_in-within 0 15 c.1) (λ d. omega arith)))
    (λ b w front early. bind-moves w _ _ _ (hex_in-local 0 15 w front) (λ c. bind-within c.1 _ _ (hex_in-within 0 15 c.1) (λ d. omega arith))
    (λ c w front early. bind-moves w _ _ _ (hex_in-local 0 15 w front) (λ d. omega arith) (λ d. kept _) early) early) early) early

unicode_at-local : Local unicode_at
unfolding unicode_at
unicode_at-local w front early =
    bind-moves w _ _ _ (unit_at-local w front)
    (λ u. either (Within u.1) (is_high_surrogate u.0) (low_half_at u.0 u.1) (Ok u) (low_half_at-within u.0 u.1) (omega arith))
    (λ u w front early. choice-moves w (is_high_surrogate u) _ _ _ _ (low_half_at-local u w front) (kept u w front) early) early

named-moves : (o : Option ℕ) (w : Ways) (a : ℕ) (us : List ℕ) → Early w (ok_or o (Syntax (length (a ∷ us ++ rest w))) >>= (λ c. Ok (c, us ++ rest w)))
    → Moves w (ok_or o (Syntax (length (a ∷ us ++ rest w))) >>= (λ c. Ok (c, us ++ rest w))) (ok_or o (Syntax (length (a ∷ us ++ more w))) >>= (λ c. Ok (c, us ++ more w)))
named-moves (Some c) w a us early = (us, refl, refl)
named-moves None w a us early = fault-moves w (a ∷ us)

first_named-moves : (o : Option ℕ) (w : Ways) → Early w (ok_or o (Syntax (length (rest w))) >>= (λ c. Ok (c, w.others)))
    → Moves w (ok_or o (Syntax (length (rest w))) >>= (λ c. Ok (c, w.others))) (ok_or o (Syntax (length (more w))) >>= (λ c. Ok (c, w.changed)))
first_named-moves (Some c) w early = absurd (omega arith)
first_named-moves None w early = fault-moves w []

escape_at-local : Local escape_at
unfolding escape_at
escape_at-local w [] early =
    choice-moves w (w.first == 0x75) (unicode_at w.others) _ _ _ (too_late w _ _ (unicode_at-within w.others)) (first_named-moves (named_char w.first) w) early
escape_at-local w (a ∷ us) early =
    choice-moves w (a == 0x75) (unicode_at (us ++ rest w)) _ _ _ (unicode_at-local w us) (named-moves (named_char a) w a us) early

char_at-local : Local char_at
unfolding char_at
char_at-local w [] early =
    choice-moves w (w.first == 0x5C) (escape_at w.others) _ _ _ (too_late w _ _ (escape_at-within w.others)) (utf8_at-local w []) early
char_at-local w (a ∷ us) early =
    choice-moves w (a == 0x5C) (escape_at (us ++ rest w)) _ _ _ (escape_at-local w us) (utf8_at-local w (a ∷ us)) early

-- one character, and then the others
another : (n : ℕ) → Local (text_within n) → Local (λ bs. char_at bs >>= (λ c. text_within n c.1 >>= (λ cs. Ok (c.0 ∷ cs.0, cs.1))))
another n others w front early =
    bind-moves w _ _ _ (char_at-local w front) (λ c. bind-within c.1 (text_within n c.1) _ (text_within-within n c.1) (λ cs. omega arith))
    (λ c w front early. bind-moves w _ _ _ (others w front) (λ cs. omega arith) (λ cs. kept _) early) early

text_within-local : (n : ℕ) → Local (text_within n)
text_within-local zero w front early = fault-moves w front
text_within-local (suc n) w [] early =
    choice-moves w (w.first == 0x22) (Ok ([], w.others)) _ _ _ (λ e. absurd (omega arith)) (another n (text_within-local n) w []) early
text_within-local (suc n) w (a ∷ us) early =
    choice-moves w (a == 0x22) (Ok ([], us ++ rest w)) _ _ _ (λ e. (us, refl, refl)) (another n (text_within-local n) w (a ∷ us)) early

pub text_at-local : Local text_at
unfolding text_at
text_at-local w front early =
    let n = length (front ++ rest w) + length (front ++ more w) in
    let here = text_within-same (length (front ++ rest w)) n (front ++ rest w) (omega arith) (omega arith) in
    let there = text_within-same (length (front ++ more w)) n (front ++ more w) (omega arith) (omega arith) in
    subst (λ o. Moves w o (text_within (length (front ++ more w)) (front ++ more w))) (sym here)
    (subst (λ o. Moves w (text_within n (front ++ rest w)) o) (sym there)
    (text_within-local n w front (subst (Early w) here early)))
