-- Blanks at the end of a line change nothing.
use Rattle.std.proofs.Common.{◌≡◌, ℕ, ◌+◌, ◌-◌, ◌<◌, ◌≤◌, Bool, true, false, cond, List, [], ◌∷◌, ◌++◌, length, get_or, take, drop, ltb, Option, None, Some, sym, refl, ap, ◌∙◌, subst, ⊎_elim, append-nil, append_assoc, arith}
use Rattle.std.specs.Prelude.{◌||◌, All, option_map, option_and_then, position}
use Rattle.std.specs.List.{position_or_len}
use Rattle.std.specs.Option.{option_or}
use Rattle.std.specs.Str.{IsUtf8, IsAscii, is_utf8}
use Rattle.std.proofs.lemmas.Bool.{false_from_ne_true, false≢true, or_right, cases_lt, lt-ltb, le-ltb, cond-true, cond-false}
use Rattle.std.proofs.lemmas.List.{length-append, take_at, take-append-le, drop-append-le, get_or_append_left, get_or-append_right, get_or_at, get_or_past}
use Rattle.std.proofs.lemmas.List.Elements.{All-append}
use Rattle.std.proofs.lemmas.List.Quantifiers.{position-Some}
use Rattle.std.proofs.lemmas.List.Sums.{position_or_len_is, fails_before_first}
use Rattle.std.proofs.lemmas.Str.{IsUtf8-append, IsUtf8-take, IsUtf8-from_ascii, IsUtf8-from_is_utf8, is_utf8-from_IsUtf8, IsCharBoundary-before_ascii}
use Rattle.config_file.specs.declared.fault.FileKind.{FileKind}
use Rattle.config_file.specs.declared.line.Line.TheVariants.{Nothing}
use Rattle.config_file.specs.declared.line.Place.{Place}
use Rattle.config_file.specs.declared.line.Place.TheVariants.{Outside, Opened, Behind}
use Rattle.config_file.specs.Grammar.{IsBlank}
use Rattle.config_file.specs.Lines.{is_nested, is_remark, in_brackets, head_named, head_of, is_sign, key_with, key_at, key_of, form_of, line_of}
use Rattle.config_file.specs.Trimmed.{blanks_before, front_trimmed, end_trimmed, trimmed}
use Rattle.config_file.proofs.FirstLines.{position-None}
use Rattle.config_file.proofs.KeyForms.{blank_no_sign, no_sign_test}
use Rattle.config_file.proofs.LineForms.{is_nothing}
use Rattle.config_file.proofs.Trims.{Front, BeginsTrim, front_parts, end_parts, front_is, end_is, before_is, front_nothing}

position_at : (p : ℕ → Bool) (xs : List ℕ) (i : ℕ) → i < length xs → ((k : ℕ) → k < i → p (get_or xs k 0) ≡ false) → p (get_or xs i 0) ≡ true
    → position p xs ≡ Some i
position_at p xs i within before here =
    let at : position_or_len p xs ≡ i = position_or_len_is p xs i 0 (omega arith) before (λ h. here) in
    cond-true (ltb (position_or_len p xs) (length xs)) (Some (position_or_len p xs)) None (lt-ltb (position_or_len p xs) (length xs) (omega arith)) ∙ ap Some at

position_none : (p : ℕ → Bool) (xs : List ℕ) → ((k : ℕ) → k < length xs → p (get_or xs k 0) ≡ false) → position p xs ≡ None
position_none p xs none =
    let at : position_or_len p xs ≡ length xs = position_or_len_is p xs (length xs) 0 (omega arith) none (λ h. absurd (omega arith)) in
    cond-false (ltb (position_or_len p xs) (length xs)) (Some (position_or_len p xs)) None (le-ltb (position_or_len p xs) (length xs) (omega arith))

-- no blank is a sign
behind_no_sign : (line bl : List ℕ) (k : ℕ) → All IsBlank bl → length line ≤ k → k < length (line ++ bl) → is_sign (get_or (line ++ bl) k 0) ≡ false
behind_no_sign line bl k blank low within =
    let at : k - length line < length bl = omega (arith, length-append line bl) in
    ap is_sign (get_or-append_right line bl (length line) k 0 refl low)
    ∙ no_sign_test (get_or bl (k - length line) 0) (blank_no_sign _ (blank (k - length line) 0 at))

sign_step : (line bl : List ℕ) (o : Option ℕ) → All IsBlank bl → position is_sign line ≡ o → position is_sign (line ++ bl) ≡ o
sign_step line bl None blank found =
    let past : length line ≤ position_or_len is_sign line = position-None is_sign line (sym found) in
    position_none is_sign (line ++ bl) (λ k within. ⊎_elim
    (λ (low : k < length line). ap is_sign (get_or_append_left line bl 0 k low) ∙ fails_before_first is_sign line k 0 (omega arith))
    (λ (high : length line ≤ k). behind_no_sign line bl k blank high within)
    (cases_lt k (length line)))
sign_step line bl (Some at) blank found =
    let there = position-Some is_sign line at 0 found in
    let within : at < length line = there.0 in
    position_at is_sign (line ++ bl) at (omega (arith, length-append line bl))
    (λ k low. ap is_sign (get_or_append_left line bl 0 k (omega arith)) ∙ there.2 k low)
    (ap is_sign (get_or_append_left line bl 0 at within) ∙ there.1)

end_same : (text bl : List ℕ) → All IsBlank bl → end_trimmed (text ++ bl) ≡ end_trimmed text
end_same text bl blank =
    let e = end_parts text in
    ap end_trimmed (ap (λ t. t ++ bl) e.is ∙ append_assoc (end_trimmed text) e.blanks bl)
    ∙ end_is (end_trimmed text) (e.blanks ++ bl) e.trim (All-append IsBlank e.blanks bl e.blank blank)

begins_more : (b : ℕ) (bs bl : List ℕ) → BeginsTrim (b ∷ bs) → BeginsTrim ((b ∷ bs) ++ bl)
begins_more b bs bl trim c rest is blank = trim b bs refl (subst IsBlank (sym (ap (λ l. get_or l 0 0) is)) blank)

all_blank : (text : List ℕ) → Front text [] → All IsBlank text
all_blank text f = subst (All IsBlank) (sym (f.is ∙ append-nil f.blanks)) f.blank

with_blanks : (text bl : List ℕ) (b : ℕ) (bs : List ℕ) → Front text (b ∷ bs) → front_trimmed (text ++ bl) ≡ (b ∷ bs) ++ bl
with_blanks text bl b bs f =
    ap front_trimmed (ap (λ l. l ++ bl) f.is ∙ append_assoc f.blanks (b ∷ bs) bl) ∙ front_is f.blanks ((b ∷ bs) ++ bl) f.blank (begins_more b bs bl f.trim)

same_before : (text bl : List ℕ) (b : ℕ) (bs : List ℕ) → Front text (b ∷ bs) → blanks_before (text ++ bl) ≡ blanks_before text
same_before text bl b bs f =
    ap blanks_before (ap (λ l. l ++ bl) f.is ∙ append_assoc f.blanks (b ∷ bs) bl)
    ∙ before_is f.blanks ((b ∷ bs) ++ bl) f.blank (begins_more b bs bl f.trim)
    ∙ f.count

trimmed_step : (text bl rest : List ℕ) → Front text rest → All IsBlank bl → end_trimmed (front_trimmed (text ++ bl)) ≡ end_trimmed rest
trimmed_step text bl [] f blank = ap end_trimmed (front_nothing (text ++ bl) (All-append IsBlank text bl (all_blank text f) blank))
trimmed_step text bl (b ∷ bs) f blank = ap end_trimmed (with_blanks text bl b bs f) ∙ end_same (b ∷ bs) bl blank

trimmed_same : (text bl : List ℕ) → All IsBlank bl → trimmed (text ++ bl) ≡ trimmed text
trimmed_same text bl blank = trimmed_step text bl (front_trimmed text) (front_parts text) blank

key_at_same : (line bl : List ℕ) (at : ℕ) → at < length line → All IsBlank bl → blanks_before (line ++ bl) ≡ blanks_before line
    → key_at (line ++ bl) at ≡ key_at line at
key_at_same line bl at within blank count =
    let left : trimmed (take at (line ++ bl)) ≡ trimmed (take at line) = ap trimmed (take-append-le at line bl (omega arith)) in
    let right : trimmed (drop (at + 1) (line ++ bl)) ≡ trimmed (drop (at + 1) line) =
    ap trimmed (drop-append-le (at + 1) line bl (omega arith)) ∙ trimmed_same (drop (at + 1) line) bl blank in
    ap (λ n. key_with n (trimmed (take at (line ++ bl))) (trimmed (drop (at + 1) (line ++ bl)))) count
    ∙ ap (λ k. key_with (blanks_before line) k (trimmed (drop (at + 1) (line ++ bl)))) left
    ∙ ap (λ v. key_with (blanks_before line) (trimmed (take at line)) v) right

key_step : (line bl : List ℕ) (o : Option ℕ) → position is_sign line ≡ o → All IsBlank bl → blanks_before (line ++ bl) ≡ blanks_before line
    → option_and_then (key_at (line ++ bl)) o ≡ option_and_then (key_at line) o
key_step line bl None found blank count = refl
key_step line bl (Some at) found blank count = key_at_same line bl at (position-Some is_sign line at 0 found).0 blank count

inside_same : (line bl : List ℕ) → All IsBlank bl → blanks_before (line ++ bl) ≡ blanks_before line
    → option_and_then (key_at (line ++ bl)) (position is_sign (line ++ bl)) ≡ option_and_then (key_at line) (position is_sign line)
inside_same line bl blank count =
    ap (option_and_then (key_at (line ++ bl))) (sign_step line bl (position is_sign line) blank refl) ∙ key_step line bl (position is_sign line) refl blank count

key_same : (place : Place) (line bl : List ℕ) → All IsBlank bl → blanks_before (line ++ bl) ≡ blanks_before line → key_of place (line ++ bl) ≡ key_of place line
key_same Outside line bl blank count = refl
key_same Opened line bl blank count = inside_same line bl blank count
key_same (Behind blanks) line bl blank count = inside_same line bl blank count

nested_same : (place : Place) (x y : List ℕ) → blanks_before x ≡ blanks_before y → is_nested place x ≡ is_nested place y
nested_same Outside x y count = refl
nested_same Opened x y count = refl
nested_same (Behind blanks) x y count = ap (λ n. ltb blanks n) count

blank_form : (kind : FileKind) (place : Place) (line : List ℕ) → All IsBlank line → form_of kind place line ≡ Some Nothing
blank_form kind place line blank =
    cond-true (is_nothing place line) (Some Nothing) (option_or (head_of kind line) (key_of place line))
    (or_right (is_nested place line) (is_remark (front_trimmed line)) (ap is_remark (front_nothing line blank)))

form_step : (kind : FileKind) (place : Place) (line bl rest : List ℕ) → Front line rest → front_trimmed line ≡ rest → All IsBlank bl
    → form_of kind place (line ++ bl) ≡ form_of kind place line
form_step kind place line bl [] f cut blank =
    blank_form kind place (line ++ bl) (All-append IsBlank line bl (all_blank line f) blank) ∙ sym (blank_form kind place line (all_blank line f))
form_step kind place line bl (b ∷ bs) f cut blank =
    let count : blanks_before (line ++ bl) ≡ blanks_before line = same_before line bl b bs f in
    let remark : is_remark (front_trimmed (line ++ bl)) ≡ is_remark (front_trimmed line) = ap is_remark (with_blanks line bl b bs f) ∙ sym (ap is_remark cut) in
    let nothing : is_nothing place (line ++ bl) ≡ is_nothing place line =
    ap (λ n. n || is_remark (front_trimmed (line ++ bl))) (nested_same place (line ++ bl) line count) ∙ ap (λ r. is_nested place line || r) remark in
    let head : head_of kind (line ++ bl) ≡ head_of kind line = ap (λ t. option_map (head_named kind) (in_brackets t)) (end_same line bl blank) in
    ap (λ n. cond n (Some Nothing) (option_or (head_of kind (line ++ bl)) (key_of place (line ++ bl)))) nothing
    ∙ ap (λ h. cond (is_nothing place line) (Some Nothing) (option_or h (key_of place (line ++ bl)))) head
    ∙ ap (λ k. cond (is_nothing place line) (Some Nothing) (option_or (head_of kind line) k)) (key_same place line bl blank count)

blank_is_ascii : (b : ℕ) → IsBlank b → b < 128
blank_is_ascii b blank = ⊎_elim (λ e. omega arith) (λ e. omega arith) blank

blanks_ascii : (bl : List ℕ) → All IsBlank bl → IsAscii bl
blanks_ascii bl blank i = ⊎_elim
    (λ (within : i < length bl). blank_is_ascii (get_or bl i 0) (blank i 0 within))
    (λ (past : length bl ≤ i). let e : get_or bl i 0 ≡ 0 = get_or_past bl i 0 past in omega arith)
    (cases_lt i (length bl))

front_utf8 : (line bl : List ℕ) → All IsBlank bl → IsUtf8 (line ++ bl) → IsUtf8 line
front_utf8 line [] blank utf8 = subst IsUtf8 (append-nil line) utf8
front_utf8 line (b ∷ bs) blank utf8 =
    let ascii : b < 128 = blank_is_ascii b (blank 0 0 (omega arith)) in
    let here : get_or (line ++ b ∷ bs) (length line) 0 ≡ b = get_or_at line b bs 0 (length line) refl in
    subst IsUtf8 (take_at line (b ∷ bs) (length line) refl)
    (IsUtf8-take (line ++ b ∷ bs) (length line) utf8
    (IsCharBoundary-before_ascii (line ++ b ∷ bs) (length line) (omega (arith, length-append line (b ∷ bs))) (omega arith)))

utf8_step : (line bl : List ℕ) (b : Bool) → is_utf8 line ≡ b → All IsBlank bl → is_utf8 (line ++ bl) ≡ b
utf8_step line bl true is blank =
    is_utf8-from_IsUtf8 (line ++ bl) (IsUtf8-append line bl (IsUtf8-from_is_utf8 line is) (IsUtf8-from_ascii bl (blanks_ascii bl blank)))
utf8_step line bl false is blank = false_from_ne_true (is_utf8 (line ++ bl))
    (λ e. false≢true (sym is ∙ is_utf8-from_IsUtf8 line (front_utf8 line bl blank (IsUtf8-from_is_utf8 (line ++ bl) e))))

pub blanks_are_free : (kind : FileKind) (place : Place) (line bl : List ℕ) → All IsBlank bl → line_of kind place (line ++ bl) ≡ line_of kind place line
blanks_are_free kind place line bl blank =
    ap (λ b. cond b (form_of kind place (line ++ bl)) None) (utf8_step line bl (is_utf8 line) refl blank)
    ∙ ap (λ f. cond (is_utf8 line) f None) (form_step kind place line bl (front_trimmed line) (front_parts line) refl blank)
