-- Reading a number takes as much as a number can have, and no less.
use Rattle.std.proofs.Common.{◌≡◌, ◌≢◌, ℕ, ◌<◌, Bool, true, false, ◌⊎◌, inl, inr, List, [], ◌∷◌, ◌++◌, length, drop, slice_index, Ok, refl, sym, ap, ◌∙◌, subst, arith, append_assoc, append-nil, length-append}
use Rattle.std.specs.Char.{is_ascii_digit}
use Rattle.std.proofs.lemmas.Bool.{cases_Bool, cases_eq, and_parts, leb-true}
use Rattle.std.proofs.lemmas.Int.Digits.{digits_push}
use Rattle.json_doc.specs.NumberToken.{Exponent, Number, IsDigits, IsInt, minus, SpellsFrac, no_frac, with_frac, is_exp_mark, SpellsExp, no_exp, with_exp, SpellsNumber, IsWhole, BeginsWithNumber, no_exponent, number_at}
use Rattle.json_doc.proofs.TokenParts.{ok_same}
use Rattle.json_doc.proofs.TextScans.{first_is}
use Rattle.json_doc.proofs.NumberScans.{Ends, Follows, is_digit, marks, number_at_ok}
use Rattle.json_doc.proofs.NumbersAgain.{number_at-spelled}

-- nothing goes on with a number
Follows-nil : (n : Number) → Follows n []
Follows-nil n = record {
  int = λ fracless expless. ((λ e. omega arith), inr refl);
  frac = λ some expless. refl;
  mark = λ expless. refl;
  exp = λ some. refl;
}

-- whether a byte goes on with a number doesn't hang on those behind it
Follows-first : (n : Number) (b : ℕ) (others more : List ℕ) → Follows n (b ∷ others) → Follows n (b ∷ more)
Follows-first n b others more f = record { int = f.int; frac = f.frac; mark = f.mark; exp = f.exp }

whole_from : (n : Number) (text rest : List ℕ) → SpellsNumber n text → Follows n rest → IsWhole text rest
whole_from n text rest s follows m b others more is longer =
    let short : number_at (text ++ b ∷ more) ≡ Ok (n, b ∷ more) = number_at-spelled n text (b ∷ more) s (Follows-first n b others more (subst (Follows n) is follows)) in
    let long : number_at (text ++ b ∷ more) ≡ Ok (m, []) = ap number_at (sym (append-nil (text ++ b ∷ more))) ∙ number_at-spelled m (text ++ b ∷ more) [] longer (Follows-nil m) in
    let same = ok_same _ _ (sym short ∙ long) in
    let none : b ∷ more ≡ [] = ap (λ x. x.1) same in
    cc

-- what was read stands in front, as long as it can be
pub number_at-begins : (bs : List ℕ) (n : Number) (rest : List ℕ) → number_at bs ≡ Ok (n, rest) → BeginsWithNumber bs n rest
number_at-begins bs n rest e = let t = number_at_ok bs (n, rest) e in (t.0, t.1, t.2, whole_from n t.0 rest t.1 t.3)

-- The other way: where a byte would go on with a number, there is a longer one.

empty_frac : (ds bs : List ℕ) → SpellsFrac ds bs → ds ≡ [] → bs ≡ []
empty_frac ds bs (no_frac none is) e = is
empty_frac ds bs (with_frac some is) e = let nothing = ap length e in absurd (omega (arith, some.0))

empty_exp : (x : Exponent) (bs : List ℕ) → SpellsExp x bs → x.digits ≡ [] → bs ≡ []
empty_exp x bs (no_exp sign none is) e = is
empty_exp x bs (with_exp mark sign m s some is) e = let nothing = ap length e in absurd (omega (arith, some.0))

digits_more : (ds : List ℕ) (b : ℕ) → IsDigits ds → is_ascii_digit b ≡ true → IsDigits (ds ++ b ∷ [])
digits_more ds b is d = (omega (arith, is.0, length-append ds (b ∷ [])), digits_push 10 ds b is.1 (is_digit b d))

longer_frac : (ds bs : List ℕ) (b : ℕ) → SpellsFrac ds bs → 0 < length ds → is_ascii_digit b ≡ true → SpellsFrac (ds ++ b ∷ []) (bs ++ b ∷ [])
longer_frac ds bs b (no_frac none is) some d = let nothing = ap length none in absurd (omega arith)
longer_frac ds bs b (with_frac ok is) some d = with_frac (digits_more ds b ok d) (ap (λ cs. cs ++ b ∷ []) is)

longer_exp : (x : Exponent) (bs : List ℕ) (b : ℕ) → SpellsExp x bs → 0 < length x.digits → is_ascii_digit b ≡ true → SpellsExp (record { is_negative = x.is_negative; digits = x.digits ++ b ∷ [] }) (bs ++ b ∷ [])
longer_exp x bs b (no_exp sign none is) some d = let nothing = ap length none in absurd (omega arith)
longer_exp x bs b (with_exp mark sign m s ok is) some d =
    with_exp mark sign m s (digits_more x.digits b ok d) (ap (λ cs. cs ++ b ∷ []) is ∙ ap (λ cs. mark ∷ cs) (append_assoc sign x.digits (b ∷ [])))

first_kept : (ds : List ℕ) (b : ℕ) → 0 < length ds → slice_index (ds ++ b ∷ []) 0 ≡ slice_index ds 0
first_kept [] b some = absurd (omega arith)
first_kept (d ∷ ds) b some = refl

longer_int : (ds : List ℕ) (b : ℕ) → IsInt ds → (ds ≡ 0x30 ∷ [] → ⊥) → is_ascii_digit b ≡ true → IsInt (ds ++ b ∷ [])
longer_int ds b is other d = (digits_more ds b is.0 d, λ e. absurd (other (is.1 (sym (first_kept ds b is.0.0) ∙ e))))

zero_digits : IsDigits (0x30 ∷ [])
zero_digits = (omega arith, (omega arith, tt))

module _ (n : Number) (text : List ℕ) (s : SpellsNumber n text) where
  more_exp : (b : ℕ) → 0 < length n.exp.digits → is_ascii_digit b ≡ true
      → SpellsNumber (record { is_negative = n.is_negative; int = n.int; frac = n.frac; exp = record { is_negative = n.exp.is_negative; digits = n.exp.digits ++ b ∷ [] } }) (text ++ b ∷ [])
  more_exp b some d = record {
    frac = s.frac;
    exp = s.exp ++ b ∷ [];
    is_int = s.is_int;
    is_frac = s.is_frac;
    is_exp = longer_exp n.exp s.exp b s.is_exp some d;
    whole = ap (λ cs. cs ++ b ∷ []) s.whole ∙ simp append_assoc;
  }

  -- without an exponent
  unmarked : n.exp.digits ≡ [] → text ≡ minus n.is_negative ++ n.int ++ s.frac
  unmarked none = s.whole ∙ ap (λ cs. minus n.is_negative ++ n.int ++ s.frac ++ cs) (empty_exp n.exp s.exp s.is_exp none) ∙ append-nil (minus n.is_negative ++ n.int ++ s.frac)

  more_mark : (b : ℕ) → n.exp.digits ≡ [] → is_exp_mark b ≡ true
      → SpellsNumber (record { is_negative = n.is_negative; int = n.int; frac = n.frac; exp = record { is_negative = false; digits = 0x30 ∷ [] } }) (text ++ b ∷ 0x30 ∷ [])
  more_mark b none m = record {
    frac = s.frac;
    exp = b ∷ 0x30 ∷ [];
    is_int = s.is_int;
    is_frac = s.is_frac;
    is_exp = with_exp b [] m (inr refl) zero_digits refl;
    whole = ap (λ cs. cs ++ b ∷ 0x30 ∷ []) (unmarked none);
  }

  more_frac : (b : ℕ) → 0 < length n.frac → n.exp.digits ≡ [] → is_ascii_digit b ≡ true
      → SpellsNumber (record { is_negative = n.is_negative; int = n.int; frac = n.frac ++ b ∷ []; exp = no_exponent }) (text ++ b ∷ [])
  more_frac b some none d = record {
    frac = s.frac ++ b ∷ [];
    exp = [];
    is_int = s.is_int;
    is_frac = longer_frac n.frac s.frac b s.is_frac some d;
    is_exp = no_exp refl refl refl;
    whole = ap (λ cs. cs ++ b ∷ []) (unmarked none) ∙ simp (append_assoc, append-nil);
  }

  -- without a fraction too
  unpointed : n.frac ≡ [] → n.exp.digits ≡ [] → text ≡ minus n.is_negative ++ n.int
  unpointed fracless expless = unmarked expless ∙ ap (λ cs. minus n.is_negative ++ n.int ++ cs) (empty_frac n.frac s.frac s.is_frac fracless) ∙ append-nil (minus n.is_negative ++ n.int)

  more_point : n.frac ≡ [] → n.exp.digits ≡ []
      → SpellsNumber (record { is_negative = n.is_negative; int = n.int; frac = 0x30 ∷ []; exp = no_exponent }) (text ++ 0x2E ∷ 0x30 ∷ [])
  more_point fracless expless = record {
    frac = 0x2E ∷ 0x30 ∷ [];
    exp = [];
    is_int = s.is_int;
    is_frac = with_frac zero_digits refl;
    is_exp = no_exp refl refl refl;
    whole = ap (λ cs. cs ++ 0x2E ∷ 0x30 ∷ []) (unpointed fracless expless) ∙ sym (append-nil _);
  }

  more_int : (b : ℕ) → n.frac ≡ [] → n.exp.digits ≡ [] → (n.int ≡ 0x30 ∷ [] → ⊥) → is_ascii_digit b ≡ true
      → SpellsNumber (record { is_negative = n.is_negative; int = n.int ++ b ∷ []; frac = []; exp = no_exponent }) (text ++ b ∷ [])
  more_int b fracless expless other d = record {
    frac = [];
    exp = [];
    is_int = longer_int n.int b s.is_int other d;
    is_frac = no_frac refl refl;
    is_exp = no_exp refl refl refl;
    whole = ap (λ cs. cs ++ b ∷ []) (unpointed fracless expless) ∙ simp (append_assoc, append-nil);
  }

fails_unless : (p : ℕ → Bool) (b : ℕ) → (p b ≡ true → ⊥) → p b ≡ false
fails_unless p b other = elim (cases_Bool (p b)) [ inl passes ↦ absurd (other passes) | inr fails ↦ fails ]

digit-pos : (b : ℕ) → is_ascii_digit b ≡ true → 0 < b
digit-pos b d = let low = leb-true 48 b (and_parts _ _ d).0 in omega arith

module _ (n : Number) (text rest : List ℕ) (s : SpellsNumber n text) (whole : IsWhole text rest) where
  no_more : (m : Number) (more : List ℕ) → 0 < slice_index rest 0 → SpellsNumber m (text ++ slice_index rest 0 ∷ more) → ⊥
  no_more m more some longer = whole m (slice_index rest 0) (drop 1 rest) more (first_is rest (slice_index rest 0) refl some) longer

  behind_point : n.frac ≡ [] → n.exp.digits ≡ [] → slice_index rest 0 ≢ 0x2E
  behind_point fracless expless e =
      no_more _ (0x30 ∷ []) (omega arith) (subst (λ b. SpellsNumber (record { is_negative = n.is_negative; int = n.int; frac = 0x30 ∷ []; exp = no_exponent }) (text ++ b ∷ 0x30 ∷ [])) (sym e) (more_point n text s fracless expless))

  behind_digits : n.frac ≡ [] → n.exp.digits ≡ [] → (n.int ≡ 0x30 ∷ []) ⊎ Ends is_ascii_digit rest
  behind_digits fracless expless = elim (cases_eq (slice_index n.int 0) 0x30) [
    | inl e ↦ inl (s.is_int.1 e)
    | inr other ↦
        inr (fails_unless is_ascii_digit (slice_index rest 0) (λ d. no_more _ [] (digit-pos _ d) (more_int n text s (slice_index rest 0) fracless expless (λ e. other (ap (λ cs. slice_index cs 0) e)) d)))
  ]

  follows_from : Follows n rest
  follows_from = record {
    int = λ fracless expless. (behind_point fracless expless, behind_digits fracless expless);
    frac = λ some expless. fails_unless is_ascii_digit (slice_index rest 0) (λ d. no_more _ [] (digit-pos _ d) (more_frac n text s (slice_index rest 0) some expless d));
    mark = λ expless. fails_unless is_exp_mark (slice_index rest 0) (λ m. no_more _ (0x30 ∷ []) (marks _ m) (more_mark n text s (slice_index rest 0) expless m));
    exp = λ some. fails_unless is_ascii_digit (slice_index rest 0) (λ d. no_more _ [] (digit-pos _ d) (more_exp n text s (slice_index rest 0) some d));
  }

-- what stands in front, as long as it can be, is read
pub number_at-front : (bs : List ℕ) (n : Number) (rest : List ℕ) → BeginsWithNumber bs n rest → number_at bs ≡ Ok (n, rest)
number_at-front bs n rest t = ap number_at t.2 ∙ number_at-spelled n t.0 rest t.1 (follows_from n t.0 rest t.1 t.3)
