-- What a line is goes by the grammar.
use Rattle.std.proofs.Common.{◌≡◌, ℕ, ◌<◌, Bool, true, false, cond, List, [], ◌∷◌, eqb, Option, None, Some, sym, refl, ap, ◌∙◌, subst, inl, inr, ⊎_elim, append-nil, arith}
use Rattle.std.specs.Prelude.{◌⊎◌, ◌||◌, All, option_map}
use Rattle.std.specs.Option.{option_or}
use Rattle.std.specs.Str.{chars, IsUtf8, is_utf8}
use Rattle.std.proofs.lemmas.Bool.{or_cases, or_left, or_right, eq-eqb, eqb-true, ltb-true, lt-ltb, cond-true, cond-false, false≢true, false_from_ne_true}
use Rattle.std.proofs.lemmas.Str.{IsUtf8-from_is_utf8, is_utf8-from_IsUtf8}
use Rattle.config_file.specs.declared.fault.FileKind.{FileKind}
use Rattle.config_file.specs.declared.line.Line.{Line}
use Rattle.config_file.specs.declared.line.Line.TheVariants.{Nothing, Head, Key}
use Rattle.config_file.specs.declared.line.Place.{Place}
use Rattle.config_file.specs.declared.line.Place.TheVariants.{Outside, Opened, Behind}
use Rattle.config_file.specs.Grammar.{IsBlank, IsNested, IsEmptyLine, IsComment, SaysNothing, IsHead, NamesProfile, IsLine}
use Rattle.config_file.specs.Lines.{is_nested, is_remark, in_brackets, profile_named, head_named, head_of, key_of, form_of, line_of}
use Rattle.config_file.specs.Trimmed.{blanks_before, front_trimmed, end_trimmed}
use Rattle.config_file.proofs.HeadForms.{head_says, head_from, names_says, names_from}
use Rattle.config_file.proofs.KeyForms.{KeySays, key_says, key_from}
use Rattle.config_file.proofs.Trims.{Front, BeginsTrim, front_parts, front_is, before_is, front_nothing}

abbrev pub is_nothing : Place → List ℕ → Bool
is_nothing place line = is_nested place line || is_remark (front_trimmed line)

nested_says : (place : Place) (line : List ℕ) → is_nested place line ≡ true → IsNested place line
nested_says Outside line is = false≢true is
nested_says Opened line is = false≢true is
nested_says (Behind blanks) line is =
    let f = front_parts line in
    (blanks_before line, (f.blanks, front_trimmed line, f.is, f.blank, f.count, f.trim), ltb-true blanks (blanks_before line) is)

nested_from : (place : Place) (line : List ℕ) → IsNested place line → is_nested place line ≡ true
nested_from Outside line nested = absurd nested
nested_from Opened line nested = absurd nested
nested_from (Behind blanks) line nested =
    let s = nested.1 in
    let count : blanks_before line ≡ nested.0 = ap blanks_before s.2 ∙ before_is s.0 s.1 s.3 s.5 ∙ s.4 in
    let more : blanks < nested.0 = nested.2 in
    lt-ltb blanks (blanks_before line) (omega arith)

remark_says : (line rest : List ℕ) → Front line rest → is_remark rest ≡ true → IsEmptyLine line ⊎ IsComment line
remark_says line [] f is = inl (subst (All IsBlank) (sym (f.is ∙ append-nil f.blanks)) f.blank)
remark_says line (b ∷ bs) f is = inr (
  f.blanks,
  b,
  bs,
  f.is,
  f.blank,
  ⊎_elim (λ e. inl (eqb-true b 35 e)) (λ e. inr (eqb-true b 59 e)) (or_cases (eqb b 35) (eqb b 59) is),
)

mark_trim : (mark : ℕ) (text : List ℕ) → (mark ≡ 35) ⊎ (mark ≡ 59) → BeginsTrim (mark ∷ text)
mark_trim mark text is b rest e blank =
    let same : mark ≡ b = cc in
    ⊎_elim (λ x. ⊎_elim (λ y. omega arith) (λ y. omega arith) blank) (λ x. ⊎_elim (λ y. omega arith) (λ y. omega arith) blank) is

remark_from : (line : List ℕ) → IsEmptyLine line ⊎ IsComment line → is_remark (front_trimmed line) ≡ true
remark_from line (inl empty) = ap is_remark (front_nothing line empty)
remark_from line (inr comment) =
    ap (λ l. is_remark (front_trimmed l)) comment.3
    ∙ ap is_remark (front_is comment.0 (comment.1 ∷ comment.2) comment.4 (mark_trim comment.1 comment.2 comment.5))
    ∙ ⊎_elim (λ e. or_left (eqb comment.1 35) (eqb comment.1 59) (eq-eqb comment.1 35 e)) (λ e. or_right (eqb comment.1 35) (eqb comment.1 59) (eq-eqb comment.1 59 e)) comment.5

nothing_says : (place : Place) (line : List ℕ) → is_nothing place line ≡ true → SaysNothing place line
nothing_says place line is = ⊎_elim
    (λ e. inl (nested_says place line e))
    (λ e. inr (remark_says line (front_trimmed line) (front_parts line) e))
    (or_cases (is_nested place line) (is_remark (front_trimmed line)) is)

nothing_from : (place : Place) (line : List ℕ) → SaysNothing place line → is_nothing place line ≡ true
nothing_from place line (inl nested) = or_left (is_nested place line) (is_remark (front_trimmed line)) (nested_from place line nested)
nothing_from place line (inr remark) = or_right (is_nested place line) (is_remark (front_trimmed line)) (remark_from line remark)

nothing_not : (place : Place) (line : List ℕ) → is_nothing place line ≡ false → ¬ SaysNothing place line
nothing_not place line is says = false≢true (sym is ∙ nothing_from place line says)

not_nothing : (place : Place) (line : List ℕ) → ¬ SaysNothing place line → is_nothing place line ≡ false
not_nothing place line not = false_from_ne_true (is_nothing place line) (λ is. not (nothing_says place line is))

abbrev HeadSays : FileKind → List ℕ → Line → Type 0
HeadSays kind line Nothing = ⊥
HeadSays kind line (Head profile) = (name : List ℕ) × IsHead name line × NamesProfile kind name profile
HeadSays kind line (Key n key value) = ⊥

head_step : (kind : FileKind) (line : List ℕ) (l : Line) (o : Option (List ℕ)) → in_brackets (end_trimmed line) ≡ o
    → option_map (head_named kind) o ≡ Some l → HeadSays kind line l
head_step kind line l None found is = absurd (cc)
head_step kind line l (Some name) found is =
    let same : Head (option_map chars (profile_named kind name)) ≡ l = cc in
    subst (HeadSays kind line) same (name, head_says line name found, names_says kind name)

head_is : (kind : FileKind) (line : List ℕ) (l : Line) → head_of kind line ≡ Some l → HeadSays kind line l
head_is kind line l is = head_step kind line l (in_brackets (end_trimmed line)) refl is

head_made : (kind : FileKind) (line name : List ℕ) (profile : Option (List ℕ)) → IsHead name line → NamesProfile kind name profile → head_of kind line ≡ Some (Head profile)
head_made kind line name profile head names =
    ap (option_map (head_named kind)) (head_from line name head) ∙ ap (λ p. Some (Head p)) (names_from kind name profile names)

no_head_step : (kind : FileKind) (line : List ℕ) (o : Option (List ℕ)) → in_brackets (end_trimmed line) ≡ o
    → ((name : List ℕ) → ¬ IsHead name line) → option_map (head_named kind) o ≡ None
no_head_step kind line None found none = refl
no_head_step kind line (Some name) found none = absurd (none name (head_says line name found))

no_head : (kind : FileKind) (line : List ℕ) → ((name : List ℕ) → ¬ IsHead name line) → head_of kind line ≡ None
no_head kind line none = no_head_step kind line (in_brackets (end_trimmed line)) refl none

none_head : (kind : FileKind) (line : List ℕ) → head_of kind line ≡ None → (name : List ℕ) → ¬ IsHead name line
none_head kind line none name head =
    let e : Some (head_named kind name) ≡ None = sym (ap (option_map (head_named kind)) (head_from line name head)) ∙ none in
    absurd (cc)

head_line : (kind : FileKind) (place : Place) (line : List ℕ) (l : Line) → IsUtf8 line → ¬ SaysNothing place line → HeadSays kind line l → IsLine kind place line l
head_line kind place line Nothing utf8 not says = absurd says
head_line kind place line (Head profile) utf8 not says = (utf8, not, says)
head_line kind place line (Key n key value) utf8 not says = absurd says

key_line : (kind : FileKind) (place : Place) (line : List ℕ) (l : Line) → IsUtf8 line → ¬ SaysNothing place line
    → ((name : List ℕ) → ¬ IsHead name line) → KeySays place line l → IsLine kind place line l
key_line kind place line Nothing utf8 not none says = absurd says
key_line kind place line (Head profile) utf8 not none says = absurd says
key_line kind place line (Key n key value) utf8 not none says = (utf8, not, none, says.0, says.1)

other_step : (kind : FileKind) (place : Place) (line : List ℕ) (l : Line) (o : Option Line) → head_of kind line ≡ o
    → IsUtf8 line → ¬ SaysNothing place line → option_or o (key_of place line) ≡ Some l → IsLine kind place line l
other_step kind place line l None found utf8 not is = key_line kind place line l utf8 not (none_head kind line found) (key_says place line l is)
other_step kind place line l (Some head) found utf8 not is = head_line kind place line l utf8 not (head_is kind line l (found ∙ is))

form_step : (kind : FileKind) (place : Place) (line : List ℕ) (l : Line) (b : Bool) → is_nothing place line ≡ b
    → IsUtf8 line → cond b (Some Nothing) (option_or (head_of kind line) (key_of place line)) ≡ Some l → IsLine kind place line l
form_step kind place line l true test utf8 is =
    let same : Nothing ≡ l = cc in
    subst (IsLine kind place line) same (utf8, nothing_says place line test)
form_step kind place line l false test utf8 is = other_step kind place line l (head_of kind line) refl utf8 (nothing_not place line test) is

line_step : (kind : FileKind) (place : Place) (line : List ℕ) (l : Line) (b : Bool) → is_utf8 line ≡ b
    → cond b (form_of kind place line) None ≡ Some l → IsLine kind place line l
line_step kind place line l true test is = form_step kind place line l (is_nothing place line) refl (IsUtf8-from_is_utf8 line test) is
line_step kind place line l false test is = absurd (cc)

-- a line that is read is of its form
pub line_says : (kind : FileKind) (place : Place) (line : List ℕ) (l : Line) → line_of kind place line ≡ Some l → IsLine kind place line l
line_says kind place line l is = line_step kind place line l (is_utf8 line) refl is

utf8_form : (kind : FileKind) (place : Place) (line : List ℕ) → IsUtf8 line → line_of kind place line ≡ form_of kind place line
utf8_form kind place line utf8 = cond-true (is_utf8 line) (form_of kind place line) None (is_utf8-from_IsUtf8 line utf8)

other_form : (kind : FileKind) (place : Place) (line : List ℕ) → ¬ SaysNothing place line → form_of kind place line ≡ option_or (head_of kind line) (key_of place line)
other_form kind place line not =
    cond-false (is_nothing place line) (Some Nothing) (option_or (head_of kind line) (key_of place line)) (not_nothing place line not)

-- a line of a form is read so
pub line_from : (kind : FileKind) (place : Place) (line : List ℕ) (l : Line) → IsLine kind place line l → line_of kind place line ≡ Some l
line_from kind place line Nothing is =
    utf8_form kind place line is.0
    ∙ cond-true (is_nothing place line) (Some Nothing) (option_or (head_of kind line) (key_of place line)) (nothing_from place line is.1)
line_from kind place line (Head profile) is =
    utf8_form kind place line is.0
    ∙ other_form kind place line is.1
    ∙ ap (λ o. option_or o (key_of place line)) (head_made kind line is.2.0 profile is.2.1 is.2.2)
line_from kind place line (Key n key value) is =
    utf8_form kind place line is.0
    ∙ other_form kind place line is.1
    ∙ ap (λ o. option_or o (key_of place line)) (no_head kind line is.2)
    ∙ key_from place line n key value is.3 is.4
