-- Reading the parts of a number gives exactly what is spelled in front.
use Rattle.std.proofs.Common.{◌≡◌, ◌≢◌, ℕ, suc, ◌<◌, ◌==◌, Bool, true, false, ◌⊎◌, inl, inr, ⊎_elim, List, [], ◌∷◌, ◌++◌, length, take, drop, slice_index, Ok, refl, sym, ap, ◌∙◌, subst, arith, append_assoc, length-append}
use Rattle.std.specs.Char.{is_ascii_digit, digit_value}
use Rattle.std.specs.List.{prefix_len}
use Rattle.std.specs.Str.Parse.{AllDigits}
use Rattle.std.proofs.lemmas.Bool.{eqb-true, eqb-false, and_parts, leb-true, le-leb, and_from, or_cases, cases_Bool}
use Rattle.std.proofs.lemmas.List.{take-append-drop, length-take}
use Rattle.std.proofs.lemmas.List.Sums.{prefix_len-le-length}
use Rattle.std.proofs.lemmas.Str.{digit_value_digit}
use Rattle.std.proofs.lemmas.Str.Parse.{digit_from_value}
use Rattle.json_doc.specs.NumberToken.{Exponent, Number, IsDigits, IsInt, minus, SpellsFrac, no_frac, with_frac, IsSign, is_exp_mark, SpellsExp, no_exp, with_exp, SpellsNumber, digits_at, int_at, frac_at, sign_at, exp_at, minus_at, number_at, HasDigits}
use Rattle.json_doc.proofs.TokenParts.{chosen, ok_same, bind_then}
use Rattle.json_doc.proofs.TextScans.{first_is}

-- Digits.

pub is_digit : (b : ℕ) → is_ascii_digit b ≡ true → digit_value b < 10
is_digit b e =
    let both = and_parts _ _ e in
    let low = leb-true 48 b both.0 in
    let high = leb-true b 57 both.1 in
    omega (arith, digit_value_digit b (low, high))

pub digit_is : (b : ℕ) → digit_value b < 10 → is_ascii_digit b ≡ true
digit_is b small = let range = digit_from_value b small in and_from _ _ (le-leb 48 b range.0) (le-leb b 57 range.1)

digits_front : (bs : List ℕ) → AllDigits 10 (take (prefix_len is_ascii_digit bs) bs)
digits_front [] = tt
digits_front (b ∷ bs) = elim (cases_Bool (is_ascii_digit b)) [
  | inl passes ↦
      let more : prefix_len is_ascii_digit (b ∷ bs) ≡ suc (prefix_len is_ascii_digit bs) = rw passes (omega arith) in
      subst (λ n. AllDigits 10 (take n (b ∷ bs))) (sym more) (is_digit b passes, digits_front bs)
  | inr fails ↦
      let none : prefix_len is_ascii_digit (b ∷ bs) ≡ 0 = rw fails refl in
      subst (λ n. AllDigits 10 (take n (b ∷ bs))) (sym none) tt
]

-- the first byte of what is behind doesn't pass the test
abbrev pub Ends : (ℕ → Bool) → List ℕ → Type 0
Ends p rest = p (slice_index rest 0) ≡ false

front_ends : (bs : List ℕ) → Ends is_ascii_digit (drop (prefix_len is_ascii_digit bs) bs)
front_ends [] = refl
front_ends (b ∷ bs) = elim (cases_Bool (is_ascii_digit b)) [
  | inl passes ↦
      let more : prefix_len is_ascii_digit (b ∷ bs) ≡ suc (prefix_len is_ascii_digit bs) = rw passes (omega arith) in
      subst (λ n. Ends is_ascii_digit (drop n (b ∷ bs))) (sym more) (front_ends bs)
  | inr fails ↦
      let none : prefix_len is_ascii_digit (b ∷ bs) ≡ 0 = rw fails refl in
      subst (λ n. Ends is_ascii_digit (drop n (b ∷ bs))) (sym none) fails
]

-- digits in front, and no digit behind them
abbrev pub AreDigitsAt : List ℕ → List ℕ × List ℕ → Type 0
AreDigitsAt bs x = IsDigits x.0 × (bs ≡ x.0 ++ x.1) × Ends is_ascii_digit x.1

pub digits_at_ok : (bs : List ℕ) (x : List ℕ × List ℕ) → digits_at bs ≡ Ok x → AreDigitsAt bs x
unfolding digits_at
digits_at_ok bs x e = elim (chosen (prefix_len is_ascii_digit bs == 0) _ _ _ e) [
  | inl none ↦ let f = none.1 in cc
  | inr some ↦
      let n : ℕ = prefix_len is_ascii_digit bs in
      let other = eqb-false n 0 some.0 in
      let within = prefix_len-le-length is_ascii_digit bs in
      subst (AreDigitsAt bs) (ok_same _ x some.1) ((omega (arith, length-take n bs), digits_front bs), sym (take-append-drop n bs), front_ends bs)
]

-- The parts.

abbrev pub IsIntAt : List ℕ → List ℕ × List ℕ → Type 0
IsIntAt bs x = IsInt x.0 × (bs ≡ x.0 ++ x.1) × ((x.0 ≡ 0x30 ∷ []) ⊎ Ends is_ascii_digit x.1)

pub first_of_digits : (ds rest : List ℕ) → 0 < length ds → slice_index ds 0 ≡ slice_index (ds ++ rest) 0
first_of_digits [] rest some = absurd (omega arith)
first_of_digits (d ∷ ds) rest some = refl

pub int_at_ok : (bs : List ℕ) (x : List ℕ × List ℕ) → int_at bs ≡ Ok x → IsIntAt bs x
unfolding int_at
int_at_ok bs x e = elim (chosen (slice_index bs 0 == 0x30) _ _ _ e) [
  | inl h ↦ subst (IsIntAt bs) (ok_same _ x h.1) (((omega arith, (omega arith, tt)), λ e. refl), first_is bs 0x30 (eqb-true _ 0x30 h.0) (omega arith), inl refl)
  | inr h ↦
      let t = digits_at_ok bs x h.1 in
      let other = eqb-false _ 0x30 h.0 in
      ((t.0, λ e. absurd (other (ap (λ cs. slice_index cs 0) t.1 ∙ sym (first_of_digits x.0 x.1 t.0.0) ∙ e))), t.1, inr t.2)
]

-- a fraction in front: none and no point, or one and no digit behind it
abbrev pub IsFracAt : List ℕ → List ℕ × List ℕ → Type 0
IsFracAt bs x = (front : List ℕ) × SpellsFrac x.0 front × (bs ≡ front ++ x.1) × (((x.0 ≡ []) × ((bs ≡ x.1) × (slice_index x.1 0 ≢ 0x2E))) ⊎ ((0 < length x.0) × Ends is_ascii_digit x.1))

pub frac_at_ok : (bs : List ℕ) (x : List ℕ × List ℕ) → frac_at bs ≡ Ok x → IsFracAt bs x
unfolding frac_at
frac_at_ok bs x e = elim (chosen (slice_index bs 0 == 0x2E) _ _ _ e) [
  | inl h ↦
      let t = digits_at_ok (drop 1 bs) x h.1 in
      (0x2E ∷ x.0, with_frac t.0 refl, first_is bs 0x2E (eqb-true _ 0x2E h.0) (omega arith) ∙ ap (λ cs. 0x2E ∷ cs) t.1, inr (t.0.0, t.2))
  | inr h ↦ subst (IsFracAt bs) (ok_same _ x h.1) ([], no_frac refl refl, refl, inl (refl, (refl, eqb-false _ 0x2E h.0)))
]

-- an exponent in front: none and no mark, or one and no digit behind it
abbrev pub IsExpAt : List ℕ → Exponent × List ℕ → Type 0
IsExpAt bs x = (front : List ℕ) × SpellsExp x.0 front × (bs ≡ front ++ x.1) × (((x.0.digits ≡ []) × ((bs ≡ x.1) × Ends is_exp_mark x.1)) ⊎ ((0 < length x.0.digits) × Ends is_ascii_digit x.1))

-- the sign in front
abbrev IsSignAt : List ℕ → Bool × List ℕ → Type 0
IsSignAt bs x = (sign : List ℕ) × IsSign x.0 sign × (bs ≡ sign ++ x.1)

sign_at_is : (bs : List ℕ) → IsSignAt bs (sign_at bs)
sign_at_is bs = elim (cases_Bool (slice_index bs 0 == 0x2D)) [
  | inl negative ↦
      let same : sign_at bs ≡ (true, drop 1 bs) = rw negative refl in
      subst (IsSignAt bs) (sym same) (0x2D ∷ [], refl, first_is bs 0x2D (eqb-true _ 0x2D negative) (omega arith))
  | inr other ↦ elim (cases_Bool (slice_index bs 0 == 0x2B)) [
    | inl positive ↦
        let same : sign_at bs ≡ (false, drop 1 bs) = rw (other, positive) refl in
        subst (IsSignAt bs) (sym same) (0x2B ∷ [], inl refl, first_is bs 0x2B (eqb-true _ 0x2B positive) (omega arith))
    | inr none ↦
        let same : sign_at bs ≡ (false, bs) = rw (other, none) refl in
        subst (IsSignAt bs) (sym same) ([], inr refl, refl)
  ]
]

pub marks : (b : ℕ) → is_exp_mark b ≡ true → 0 < b
marks b e = ⊎_elim (λ h. let is = eqb-true b 0x65 h in omega arith) (λ h. let is = eqb-true b 0x45 h in omega arith) (or_cases _ _ e)

pub exp_at_ok : (bs : List ℕ) (x : Exponent × List ℕ) → exp_at bs ≡ Ok x → IsExpAt bs x
unfolding exp_at
exp_at_ok bs x e = elim (chosen (is_exp_mark (slice_index bs 0)) _ _ _ e) [
  | inl h ↦ bind_then (IsExpAt bs x) _ _ x h.1 (λ ds rds eds.
      let s = sign_at_is (drop 1 bs) in
      let t = digits_at_ok _ ds rds in
      let mark = first_is bs (slice_index bs 0) refl (marks _ h.0) in
      let whole : bs ≡ (slice_index bs 0 ∷ s.0 ++ ds.0) ++ ds.1 = mark ∙ ap (λ cs. slice_index bs 0 ∷ cs) (s.2 ∙ ap (λ cs. s.0 ++ cs) t.1 ∙ sym (append_assoc s.0 ds.0 ds.1)) in
      subst (IsExpAt bs) (ok_same _ x eds) (slice_index bs 0 ∷ s.0 ++ ds.0, with_exp (slice_index bs 0) s.0 h.0 s.1 t.0 refl, whole, inr (t.0.0, t.2)))
  | inr h ↦ subst (IsExpAt bs) (ok_same _ x h.1) ([], no_exp refl refl refl, refl, inl (refl, (refl, h.0)))
]

-- What may stand behind a number: not what would go on with it.
pub record Follows (n : Number) (rest : List ℕ) : Type 0 where
  pub int : n.frac ≡ [] → n.exp.digits ≡ [] → (slice_index rest 0 ≢ 0x2E) × ((n.int ≡ 0x30 ∷ []) ⊎ Ends is_ascii_digit rest)
  pub frac : 0 < length n.frac → n.exp.digits ≡ [] → Ends is_ascii_digit rest
  pub mark : n.exp.digits ≡ [] → Ends is_exp_mark rest
  pub exp : 0 < length n.exp.digits → Ends is_ascii_digit rest

-- a number in front
abbrev pub IsNumberAt : List ℕ → Number × List ℕ → Type 0
IsNumberAt bs x = (text : List ℕ) × SpellsNumber x.0 text × (bs ≡ text ++ x.1) × Follows x.0 x.1

minus_at_is : (bs : List ℕ) → bs ≡ minus (minus_at bs).0 ++ (minus_at bs).1
minus_at_is bs = elim (cases_Bool (slice_index bs 0 == 0x2D)) [
  | inl negative ↦
      let same : minus_at bs ≡ (true, drop 1 bs) = rw negative refl in
      subst (λ x. bs ≡ minus x.0 ++ x.1) (sym same) (first_is bs 0x2D (eqb-true _ 0x2D negative) (omega arith))
  | inr other ↦
      let same : minus_at bs ≡ (false, bs) = rw other refl in
      subst (λ x. bs ≡ minus x.0 ++ x.1) (sym same) refl
]

regrouped : (a b c d e : List ℕ) → a ++ (b ++ (c ++ (d ++ e))) ≡ (((a ++ b) ++ c) ++ d) ++ e
regrouped a b c d e = sym (simp append_assoc)

-- what isn't there has no digits
none_of : {P Q : Type 0} (ds : List ℕ) → ds ≡ [] → ((ds ≡ []) × P) ⊎ ((0 < length ds) × Q) → P
none_of ds e (inl h) = h.1
none_of ds e (inr h) = let nothing = ap length e in absurd (omega (arith, h.0))

some_of : {P Q : Type 0} (ds : List ℕ) → 0 < length ds → ((ds ≡ []) × P) ⊎ ((0 < length ds) × Q) → Q
some_of ds some (inl h) = let nothing = ap length h.0 in absurd (omega arith)
some_of ds some (inr h) = h.1

parts_are : (bs : List ℕ) (sign : Bool) (behind : List ℕ) (i f : List ℕ × List ℕ) (p : Exponent × List ℕ) → bs ≡ minus sign ++ behind → IsIntAt behind i → IsFracAt i.1 f → IsExpAt f.1 p
    → IsNumberAt bs (record { is_negative = sign; int = i.0; frac = f.0; exp = p.0 }, p.1)
parts_are bs sign behind i f p m int frac exp =
    let text : List ℕ = minus sign ++ i.0 ++ frac.0 ++ exp.0 in
    let whole : bs ≡ text ++ p.1 =
    m ∙ ap (λ cs. minus sign ++ cs) (int.1 ∙ ap (λ cs. i.0 ++ cs) (frac.2 ∙ ap (λ cs. frac.0 ++ cs) exp.2)) ∙ regrouped (minus sign) i.0 frac.0 exp.0 p.1 in (
      text,
      record {
        frac = frac.0;
        exp = exp.0;
        is_int = int.0;
        is_frac = frac.1;
        is_exp = exp.1;
        whole = refl;
      },
      whole,
      record {
        int = λ no_frac no_exp.
            let point = none_of f.0 no_frac frac.3 in
            let mark = none_of p.0.digits no_exp exp.3 in (
              (λ e. point.1 (ap (λ cs. slice_index cs 0) mark.0 ∙ e)),
              subst (λ rest. (i.0 ≡ 0x30 ∷ []) ⊎ Ends is_ascii_digit rest) (point.0 ∙ mark.0) int.2,
            );
        frac = λ some no_exp. subst (Ends is_ascii_digit) (none_of p.0.digits no_exp exp.3).0 (some_of f.0 some frac.3);
        mark = λ no_exp. (none_of p.0.digits no_exp exp.3).1;
        exp = λ some. some_of p.0.digits some exp.3;
      },
    )

pub number_at_ok : (bs : List ℕ) (x : Number × List ℕ) → number_at bs ≡ Ok x → IsNumberAt bs x
unfolding number_at
number_at_ok bs x e =
    let G : Type 0 = IsNumberAt bs x in
    bind_then G (int_at (minus_at bs).1) _ x e (λ i ri ei. bind_then G (frac_at i.1) _ x ei (λ f rf ef. bind_then G (exp_at f.1) _ x ef (λ p rp ep.
    subst (IsNumberAt bs) (ok_same _ x ep)
    (parts_are bs (minus_at bs).0 (minus_at bs).1 i f p (minus_at_is bs) (int_at_ok _ i ri) (frac_at_ok _ f rf) (exp_at_ok _ p rp)))))

frac_digits : (ds bs : List ℕ) → SpellsFrac ds bs → AllDigits 10 ds
frac_digits ds bs (no_frac none e) = subst (AllDigits 10) (sym none) tt
frac_digits ds bs (with_frac is e) = is.1

exp_digits : (e : Exponent) (bs : List ℕ) → SpellsExp e bs → AllDigits 10 e.digits
exp_digits e bs (no_exp sign none f) = subst (AllDigits 10) (sym none) tt
exp_digits e bs (with_exp mark sign m s is f) = is.1

-- its parts are digits, and it takes a byte at least
pub number_at-digits : (bs : List ℕ) (x : Number × List ℕ) → number_at bs ≡ Ok x → HasDigits x.0
number_at-digits bs x e =
    let t = number_at_ok bs x e in
    record { int = t.1.is_int.0.1; frac = frac_digits x.0.frac t.1.frac t.1.is_frac; exp = exp_digits x.0.exp t.1.exp t.1.is_exp }

pub number_at-shorter : (bs : List ℕ) (x : Number × List ℕ) → number_at bs ≡ Ok x → length x.1 < length bs
number_at-shorter bs x e =
    let t = number_at_ok bs x e in
    let text : List ℕ = (minus x.0.is_negative ++ x.0.int) ++ t.1.frac in
    let int = t.1.is_int.0.0 in
    omega (
      arith,
      ap length t.2,
      length-append t.0 x.1,
      ap length t.1.whole,
      length-append text t.1.exp,
      length-append (minus x.0.is_negative ++ x.0.int) t.1.frac,
      length-append (minus x.0.is_negative) x.0.int,
    )
