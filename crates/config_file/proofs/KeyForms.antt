-- Lines of keys: the tests against the grammar.
use Rattle.std.proofs.Common.{◌≡◌, ℕ, ◌+◌, ◌<◌, true, false, List, [], ◌∷◌, ◌++◌, length, get_or, map, take, drop, eqb, ltb, Option, None, Some, sym, refl, ap, ◌∙◌, subst, ⊎_elim, append_assoc, arith}
use Rattle.std.specs.Prelude.{◌⊎◌, ◌≢◌, All, position, option_and_then}
use Rattle.std.specs.Char.{to_ascii_lowercase}
use Rattle.std.specs.List.{position_or_len}
use Rattle.std.specs.Str.{chars}
use Rattle.std.proofs.lemmas.Bool.{or_left, or_right, eq-eqb, eqb-false, or_parts, lt-ltb, cond-true, false_from_ne_true}
use Rattle.std.proofs.lemmas.List.{length-append, take-append-drop, take_at, drop_at, drop-drop, drop_more, get_or_append_left, get_or-append-add, get_or-take, get_or_at, get_or_default, length-take-le}
use Rattle.std.proofs.lemmas.List.Elements.{All-append}
use Rattle.std.proofs.lemmas.List.Quantifiers.{position-Some}
use Rattle.std.proofs.lemmas.List.Sums.{position_or_len_is}
use Rattle.config_file.specs.declared.line.Line.{Line}
use Rattle.config_file.specs.declared.line.Line.TheVariants.{Nothing, Head, Key}
use Rattle.config_file.specs.declared.line.Place.{Place}
use Rattle.config_file.specs.declared.line.Place.TheVariants.{Outside, Opened, Behind}
use Rattle.config_file.specs.Grammar.{IsBlank, IsTrim, IsInSection, KeyLine}
use Rattle.config_file.specs.Lines.{is_sign, key_with, key_at, key_of}
use Rattle.config_file.specs.Trimmed.{blanks_before, front_trimmed, end_trimmed, trimmed}
use Rattle.config_file.proofs.Signs.{sign_codes, key_inside}
use Rattle.config_file.proofs.Trims.{BeginsTrim, front_parts, end_parts, front_is, end_is, before_is, front_nothing}

abbrev OtherThanSign : ℕ → Type 0
OtherThanSign b = (b ≢ 61) × (b ≢ 58)

sign_test : (b : ℕ) → (b ≡ 61) ⊎ (b ≡ 58) → is_sign b ≡ true
sign_test b sign = ⊎_elim (λ e. or_left (eqb b 61) (eqb b 58) (eq-eqb b 61 e)) (λ e. or_right (eqb b 61) (eqb b 58) (eq-eqb b 58 e)) sign

no_sign : (b : ℕ) → is_sign b ≡ false → OtherThanSign b
no_sign b test = let parts = or_parts (eqb b 61) (eqb b 58) test in (eqb-false b 61 parts.0, eqb-false b 58 parts.1)

pub no_sign_test : (b : ℕ) → OtherThanSign b → is_sign b ≡ false
no_sign_test b other = false_from_ne_true (is_sign b) (λ sign. ⊎_elim other.0 other.1 (sign_codes b sign))

pub blank_no_sign : (b : ℕ) → IsBlank b → OtherThanSign b
blank_no_sign b blank = (λ e. ⊎_elim (λ f. omega arith) (λ f. omega arith) blank, λ e. ⊎_elim (λ f. omega arith) (λ f. omega arith) blank)

all_left : (P : ℕ → Type 0) (xs ys : List ℕ) → All P (xs ++ ys) → All P xs
all_left P xs ys all k d within =
    subst P (get_or_append_left xs ys d k within) (all k d (omega (arith, length-append xs ys)))

all_right : (P : ℕ → Type 0) (xs ys : List ℕ) → All P (xs ++ ys) → All P ys
all_right P xs ys all k d within =
    subst P (get_or-append-add xs ys k d) (all (length xs + k) d (omega (arith, length-append xs ys)))

-- a text, and what is left of it between blanks
record Between (text inner : List ℕ) : Type 0 where
  front : List ℕ
  back : List ℕ
  is : text ≡ front ++ (inner ++ back)
  front_blank : All IsBlank front
  back_blank : All IsBlank back
  trim : IsTrim inner
  count : length front ≡ blanks_before text

between : (text : List ℕ) → Between text (trimmed text)
between text =
    let f = front_parts text in
    let e = end_parts (front_trimmed text) in
    record {
      front = f.blanks;
      back = e.blanks;
      is = f.is ∙ ap (λ r. f.blanks ++ r) e.is;
      front_blank = f.blank;
      back_blank = e.blank;
      trim = (λ b rest is. f.trim b (rest ++ e.blanks) (e.is ∙ ap (λ t. t ++ e.blanks) is), e.trim);
      count = f.count;
    }

begins_with : (inner back : List ℕ) → inner ≢ [] → IsTrim inner → BeginsTrim (inner ++ back)
begins_with [] back some trim = absurd (some refl)
begins_with (c ∷ cs) back some trim = λ b rest is blank. trim.0 c cs refl (subst IsBlank (sym (ap (λ l. get_or l 0 0) is)) blank)

-- what stands between blanks, where it has none at its ends
trim_is : (front inner back : List ℕ) → All IsBlank front → IsTrim inner → All IsBlank back → trimmed (front ++ (inner ++ back)) ≡ inner
trim_is front [] back front_blank trim back_blank = ap end_trimmed (front_nothing (front ++ back) (All-append IsBlank front back front_blank back_blank))
trim_is front (c ∷ cs) back front_blank trim back_blank =
    let some : c ∷ cs ≢ [] = λ e. cc in
    ap end_trimmed (front_is front ((c ∷ cs) ++ back) front_blank (begins_with (c ∷ cs) back some trim)) ∙ end_is (c ∷ cs) back trim.1 back_blank

regroup : (a key b : List ℕ) (sign : ℕ) (c value d : List ℕ)
    → (a ++ (key ++ b)) ++ sign ∷ (c ++ (value ++ d)) ≡ a ++ key ++ b ++ sign ∷ c ++ value ++ d
regroup a key b sign c value d = simp append_assoc

-- the line before and behind a position
around : (line : List ℕ) (at : ℕ) → at < length line → line ≡ take at line ++ get_or line at 0 ∷ drop (at + 1) line
around line at within = sym (take-append-drop at line) ∙ ap (λ r. take at line ++ r) (drop_more line at 0 within)

-- the parts of a line of a key
abbrev pub IsKey : List ℕ → ℕ → List ℕ → List ℕ → Type 0
IsKey line n key value = (blanks raw text : List ℕ) × KeyLine line blanks raw text × (length blanks ≡ n)
    × (key ≡ chars (map to_ascii_lowercase raw)) × (value ≡ chars text)

abbrev pub KeySays : Place → List ℕ → Line → Type 0
KeySays place line Nothing = ⊥
KeySays place line (Head profile) = ⊥
KeySays place line (Key n key value) = IsInSection place × IsKey line n key value

record SignAt (line : List ℕ) (at : ℕ) : Type 0 where
  within : at < length line
  sign : is_sign (get_or line at 0) ≡ true
  before : (k : ℕ) → k < at → is_sign (get_or line k 0) ≡ false

before_all : (line : List ℕ) (at : ℕ) → SignAt line at → All OtherThanSign (take at line)
before_all line at s k d low =
    let size : length (take at line) ≡ at = length-take-le at line (omega (arith, s.within)) in
    let small : k < at = omega (arith, size) in
    let there : k < length line = omega (arith, s.within) in
    no_sign (get_or (take at line) k d) (ap is_sign (get_or-take at line k d small ∙ get_or_default line k d 0 there) ∙ s.before k small)

key_line : (line : List ℕ) (at : ℕ) → SignAt line at → trimmed (take at line) ≢ []
    → IsKey line (blanks_before line) (chars (map to_ascii_lowercase (trimmed (take at line)))) (chars (trimmed (drop (at + 1) line)))
key_line line at s some =
    let raw = trimmed (take at line) in
    let text = trimmed (drop (at + 1) line) in
    let l = between (take at line) in
    let r = between (drop (at + 1) line) in
    let sign = get_or line at 0 in
    let whole : line ≡ (l.front ++ (raw ++ l.back)) ++ sign ∷ (r.front ++ (text ++ r.back)) =
    around line at s.within ∙ ap (λ t. t ++ sign ∷ drop (at + 1) line) l.is ∙ ap (λ t. (l.front ++ (raw ++ l.back)) ++ sign ∷ t) r.is in
    let more = l.back ++ sign ∷ (r.front ++ (text ++ r.back)) in
    let begins : line ≡ l.front ++ (raw ++ more) =
    whole ∙ append_assoc l.front (raw ++ l.back) (sign ∷ (r.front ++ (text ++ r.back)))
    ∙ ap (λ t. l.front ++ t) (append_assoc raw l.back (sign ∷ (r.front ++ (text ++ r.back)))) in
    let none : All OtherThanSign (l.front ++ (raw ++ l.back)) = subst (All OtherThanSign) l.is (before_all line at s) in (
      l.front,
      raw,
      text,
      record {
        behind = l.back;
        sign = sign;
        before = r.front;
        last = r.back;
        is = whole ∙ regroup l.front raw l.back sign r.front text r.back;
        is_sign = sign_codes sign s.sign;
        first = all_left OtherThanSign raw l.back (all_right OtherThanSign l.front (raw ++ l.back) none);
        named = some;
        key_trim = l.trim;
        value_trim = r.trim;
        blank = All-append IsBlank (l.front ++ l.back ++ r.front) r.back
            (All-append IsBlank (l.front ++ l.back) r.front (All-append IsBlank l.front l.back l.front_blank l.back_blank) r.front_blank)
            r.back_blank;
      },
      sym (ap blanks_before begins ∙ before_is l.front (raw ++ more) l.front_blank (begins_with raw more some l.trim)),
      refl,
      refl,
    )

key_with_step : (place : Place) (line : List ℕ) (n : ℕ) (raw text : List ℕ) (l : Line) → IsInSection place
    → (raw ≢ [] → IsKey line n (chars (map to_ascii_lowercase raw)) (chars text)) → key_with n raw text ≡ Some l → KeySays place line l
key_with_step place line n [] text l inside parts is = absurd (cc)
key_with_step place line n (b ∷ bs) text l inside parts is =
    let some : b ∷ bs ≢ [] = λ e. cc in
    let same : Key n (chars (map to_ascii_lowercase (b ∷ bs))) (chars text) ≡ l = cc in
    subst (KeySays place line) same (inside, parts some)

key_step : (place : Place) (line : List ℕ) (o : Option ℕ) (l : Line) → IsInSection place → position is_sign line ≡ o
    → option_and_then (key_at line) o ≡ Some l → KeySays place line l
key_step place line None l inside found is = absurd (cc)
key_step place line (Some at) l inside found is =
    let there = position-Some is_sign line at 0 found in
    key_with_step place line (blanks_before line) (trimmed (take at line)) (trimmed (drop (at + 1) line)) l inside
    (λ some. key_line line at (record { within = there.0; sign = there.1; before = there.2 }) some) is

-- a key that is read is that of the line
pub key_says : (place : Place) (line : List ℕ) (l : Line) → key_of place line ≡ Some l → KeySays place line l
key_says Outside line l is = absurd (cc)
key_says Opened line l is = key_step Opened line (position is_sign line) l tt refl is
key_says (Behind blanks) line l is = key_step (Behind blanks) line (position is_sign line) l tt refl is

past : (front rest : List ℕ) (b : ℕ) → drop (length front + 1) (front ++ b ∷ rest) ≡ rest
past front rest b = sym (drop-drop 1 (length front) (front ++ b ∷ rest)) ∙ ap (drop 1) (drop_at front (b ∷ rest) (length front) refl)

first_sign : (front rest : List ℕ) (b : ℕ) → All OtherThanSign front → is_sign b ≡ true → position is_sign (front ++ b ∷ rest) ≡ Some (length front)
first_sign front rest b other sign =
    let line = front ++ b ∷ rest in
    let size : length front < length line = omega (arith, length-append front (b ∷ rest)) in
    let at : position_or_len is_sign line ≡ length front = position_or_len_is is_sign line (length front) 0 (omega arith)
    (λ k low. ap is_sign (get_or_append_left front (b ∷ rest) 0 k low) ∙ no_sign_test (get_or front k 0) (other k 0 low))
    (λ within. ap is_sign (get_or_at front b rest 0 (length front) refl) ∙ sign) in
    cond-true (ltb (position_or_len is_sign line) (length line)) (Some (position_or_len is_sign line)) None
    (lt-ltb (position_or_len is_sign line) (length line) (omega arith))
    ∙ ap Some at

with_key : (n : ℕ) (raw text : List ℕ) → raw ≢ [] → key_with n raw text ≡ Some (Key n (chars (map to_ascii_lowercase raw)) (chars text))
with_key n [] text some = absurd (some refl)
with_key n (b ∷ bs) text some = refl

blank_all : (bs : List ℕ) → All IsBlank bs → All OtherThanSign bs
blank_all bs blank k d within = blank_no_sign (get_or bs k d) (blank k d within)

key_found : (line blanks raw text : List ℕ) → KeyLine line blanks raw text
    → option_and_then (key_at line) (position is_sign line) ≡ Some (Key (length blanks) (chars (map to_ascii_lowercase raw)) (chars text))
key_found line blanks raw text p =
    let front = blanks ++ (raw ++ p.behind) in
    let rest = p.before ++ (text ++ p.last) in
    let whole : line ≡ front ++ p.sign ∷ rest = p.is ∙ sym (regroup blanks raw p.behind p.sign p.before text p.last) in
    let three : All IsBlank (blanks ++ p.behind ++ p.before) = all_left IsBlank (blanks ++ p.behind ++ p.before) p.last p.blank in
    let two : All IsBlank (blanks ++ p.behind) = all_left IsBlank (blanks ++ p.behind) p.before three in
    let blank_1 = all_left IsBlank blanks p.behind two in
    let blank_2 = all_right IsBlank blanks p.behind two in
    let blank_3 = all_right IsBlank (blanks ++ p.behind) p.before three in
    let blank_4 = all_right IsBlank (blanks ++ p.behind ++ p.before) p.last p.blank in
    let none : All OtherThanSign front = All-append OtherThanSign blanks (raw ++ p.behind) (blank_all blanks blank_1)
    (All-append OtherThanSign raw p.behind p.first (blank_all p.behind blank_2)) in
    let at : position is_sign line ≡ Some (length front) = ap (position is_sign) whole ∙ first_sign front rest p.sign none (sign_test p.sign p.is_sign) in
    let more = p.behind ++ p.sign ∷ rest in
    let begins : line ≡ blanks ++ (raw ++ more) =
    whole ∙ append_assoc blanks (raw ++ p.behind) (p.sign ∷ rest) ∙ ap (λ t. blanks ++ t) (append_assoc raw p.behind (p.sign ∷ rest)) in
    let n : blanks_before line ≡ length blanks = ap blanks_before begins ∙ before_is blanks (raw ++ more) blank_1 (begins_with raw more p.named p.key_trim) in
    let left : trimmed (take (length front) line) ≡ raw =
    ap (λ l. trimmed (take (length front) l)) whole ∙ ap trimmed (take_at front (p.sign ∷ rest) (length front) refl) ∙ trim_is blanks raw p.behind blank_1 p.key_trim blank_2 in
    let right : trimmed (drop (length front + 1) line) ≡ text =
    ap (λ l. trimmed (drop (length front + 1) l)) whole ∙ ap trimmed (past front rest p.sign) ∙ trim_is p.before text p.last blank_3 p.value_trim blank_4 in
    ap (option_and_then (key_at line)) at
    ∙ ap (λ k. key_with k (trimmed (take (length front) line)) (trimmed (drop (length front + 1) line))) n
    ∙ ap (λ r. key_with (length blanks) r (trimmed (drop (length front + 1) line))) left
    ∙ ap (λ t. key_with (length blanks) raw t) right
    ∙ with_key (length blanks) raw text p.named

outside : (place : Place) → IsInSection place → place ≡ Outside → ⊥
outside Outside inside is = inside
outside Opened inside is = cc
outside (Behind blanks) inside is = cc

pub key_from : (place : Place) (line : List ℕ) (n : ℕ) (key value : List ℕ) → IsInSection place → IsKey line n key value
    → key_of place line ≡ Some (Key n key value)
key_from place line n key value inside is =
    key_inside place line (outside place inside)
    ∙ key_found line is.0 is.1 is.2 is.3
    ∙ ap (λ k. Some (Key k (chars (map to_ascii_lowercase is.1)) (chars is.2))) is.4
    ∙ ap (λ k. Some (Key n k (chars is.2))) (sym is.5)
    ∙ ap (λ v. Some (Key n key v)) (sym is.6)
