-- Parts of texts in ASCII, whose bytes are their characters.
use Rattle.std.proofs.Common.{◌≡◌, subst, ◌<◌, ◌≤◌, ◌-◌, ℕ, zero, suc, Bool, true, false, List, [], ◌∷◌, length, drop, nat_lt, nat_le, None, Some, refl, sym, ap, ◌∙◌, arith, if◌then◌else◌}
use Rattle.std.specs.Prelude.{slice_range}
use Rattle.std.specs.Str.{chars, IsUtf8, IsAscii, IsNotAscii}
use Rattle.std.specs.Cmp.Derive.{both_true}
use Rattle.std.proofs.lemmas.Bool.Decides.{nat_tests}
use Rattle.std.proofs.lemmas.Str.{chars-IsAscii, encodes-chars, encodes-IsAscii, IsAscii-take}
use Rattle.std.proofs.lemmas.Str.Ascii.{IsAscii-nil, IsAscii-cons}
use borrow.Author.Tests.{ltb-true}
use Rattle.texts.specs.Ascii.{is_ascii_text}
use Rattle.endpoint_rules.specs.Library.{part_between}
use Rattle.endpoint_rules.proofs.Both.{first_holds, second_holds}

lt_true : (a b : ℕ) → a < b → nat_lt a b ≡ true
lt_true a b h = grind (arith, nat_tests)

lt_false : (a b : ℕ) → b ≤ a → nat_lt a b ≡ false
lt_false a b h = grind (arith, nat_tests)

le_true : (a b : ℕ) → a ≤ b → nat_le a b ≡ true
le_true a b h = grind (arith, nat_tests)

le_false : (a b : ℕ) → b < a → nat_le a b ≡ false
le_false a b h = grind (arith, nat_tests)

is_ascii : (bs : List ℕ) → IsAscii bs → is_ascii_text bs ≡ true
is_ascii [] h = refl
is_ascii (b ∷ bs) h = both_true (lt_true b 128 (h 0)) (is_ascii bs (λ i. h (suc i)))

-- a text that passes the test is in ASCII
pub told_ascii : (bs : List ℕ) → is_ascii_text bs ≡ true → IsAscii bs
told_ascii [] e = IsAscii-nil
told_ascii (b ∷ bs) e =
    IsAscii-cons b bs (ltb-true b 128 (first_holds (nat_lt b 128) (is_ascii_text bs) e)) (told_ascii bs (second_holds (nat_lt b 128) _ e))

IsAscii-drop : (n : ℕ) (bs : List ℕ) → IsAscii bs → IsAscii (drop n bs)
IsAscii-drop zero bs h = h
IsAscii-drop (suc n) [] h = h
IsAscii-drop (suc n) (b ∷ bs) h = IsAscii-drop n bs (λ i. h (suc i))

wide : (bs : List ℕ) (u : IsUtf8 bs) → IsNotAscii bs → (r : Bool) → r ≡ is_ascii_text (chars bs) → r ≡ false
wide bs u h false e = refl
wide bs u h true e =
    let own = told_ascii (chars bs) (sym e) in
    let same : chars bs ≡ bs = sym (encodes-IsAscii (chars bs) own) ∙ encodes-chars bs u in
    let bytes = subst IsAscii same own in
    absurd (omega (arith, bytes h.0, h.1))

pub not_ascii : (bs : List ℕ) (a b : ℕ) (r : Bool) → IsUtf8 bs → IsNotAscii bs → part_between (chars bs) a b r ≡ None
not_ascii bs a b r u h = rw (wide bs u h _ refl) refl

pub too_short : (bs : List ℕ) (a b : ℕ) (r : Bool) → IsAscii bs → a < b → length bs < b → part_between (chars bs) a b r ≡ None
too_short bs a b r h o l = rw (chars-IsAscii bs h, is_ascii bs h, lt_true a b o, le_false b (length bs) l) refl

part_is : (bs : List ℕ) (a b : ℕ) (r : Bool) → IsAscii bs → a < b → b ≤ length bs
    → part_between (chars bs) a b r ≡ Some (if r then slice_range bs (length bs - b) (length bs - a) else slice_range bs a b)
part_is bs a b r h o l = rw (chars-IsAscii bs h, is_ascii bs h, lt_true a b o, le_true b (length bs) l) refl

own_chars : (bs : List ℕ) (a b : ℕ) → IsAscii bs → chars (slice_range bs a b) ≡ slice_range bs a b
own_chars bs a b h = chars-IsAscii (slice_range bs a b) (IsAscii-take (drop a bs) (b - a) (IsAscii-drop a bs h))

-- counted from the start
pub part_from_start : (bs part : List ℕ) (a b : ℕ) → IsAscii bs → a < b → b ≤ length bs → part ≡ slice_range bs a b
    → part_between (chars bs) a b false ≡ Some (chars part)
part_from_start bs part a b h o l e = part_is bs a b false h o l ∙ ap Some (sym (ap chars e ∙ own_chars bs a b h))

-- counted from the end
pub part_from_end : (bs part : List ℕ) (a b : ℕ) → IsAscii bs → a < b → b ≤ length bs
    → part ≡ slice_range bs (length bs - b) (length bs - a) → part_between (chars bs) a b true ≡ Some (chars part)
part_from_end bs part a b h o l e =
    part_is bs a b true h o l ∙ ap Some (sym (ap chars e ∙ own_chars bs (length bs - b) (length bs - a) h))
