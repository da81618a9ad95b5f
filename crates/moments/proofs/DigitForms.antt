-- The readings of digits against their forms.
use Rattle.std.proofs.Common.{◌≡◌, ℕ, ◌+◌, ◌-◌, ◌*◌, ◌/◌, ◌<◌, Bool, true, false, if◌then◌else◌, Option, None, Some, List, [], ◌∷◌, refl, ap, subst, ◌∙◌, arith}
use Rattle.std.specs.Prelude.{nat_lt}
use Rattle.std.specs.Char.{is_ascii_digit}
use Rattle.std.proofs.lemmas.Bool.{lt-ltb, ltb-true}
use Rattle.std.proofs.lemmas.Option.{cond_some, same_Some}
use Rattle.moments.specs.Inside.{past, digit, two_digits, more_digits, number, decimals, fraction_of, fraction_at, fraction}
use Rattle.moments.specs.Times.{begins_with_digit, TwoDigits, MoreDigits, Number, Decimals, Fraction}
use Rattle.moments.proofs.Steps.{bound, held, past_holds, no_past, past_none}

digit_holds : (ts : List ℕ) (x : ℕ × List ℕ) → digit ts ≡ Some x → (c : ℕ) × (ts ≡ c ∷ x.1) × (is_ascii_digit c ≡ true) × (c - 48 ≡ x.0)
digit_holds [] x e = absurd (cc)
digit_holds (c ∷ cs) x e = let h = held (is_ascii_digit c) (c - 48, cs) x e in (c, ap (λ y. c ∷ y.1) h.1, h.0, ap (λ y. y.0) h.1)

two_from : (ts rest : List ℕ) (c d a b : ℕ) → ts ≡ c ∷ d ∷ rest → is_ascii_digit c ≡ true → is_ascii_digit d ≡ true → c - 48 ≡ a → d - 48 ≡ b → TwoDigits ts (a * 10 + b) rest
two_from ts rest c d a b at first second tens ones = rw (← tens, ← ones) (TwoDigits.two_digits at first second)

pub two_holds : (ts : List ℕ) (x : ℕ × List ℕ) → two_digits ts ≡ Some x → TwoDigits ts x.0 x.1
two_holds ts x e =
    let tens = bound (digit ts) _ x e in
    let ones = bound (digit tens.0.1) _ x tens.2 in
    let first = digit_holds ts tens.0 tens.1 in
    let second = digit_holds tens.0.1 ones.0 ones.1 in
    subst (λ y. TwoDigits ts y.0 y.1) (same_Some _ _ ones.2)
    (two_from ts ones.0.1 first.0 second.0 tens.0.0 ones.0.0 (first.1 ∙ ap (λ us. first.0 ∷ us) second.1) first.2 second.2 first.3 second.3)

pub two_reads : {ts : List ℕ} {n : ℕ} {rest : List ℕ} → TwoDigits ts n rest → two_digits ts ≡ Some (n, rest)
two_reads (TwoDigits.two_digits at first second) = rw (at, first, second) refl

digit_small : (c : ℕ) → is_ascii_digit c ≡ true → c - 48 < 10
digit_small c is = grind (arith, is)

pub two_small : {ts : List ℕ} {n : ℕ} {rest : List ℕ} → TwoDigits ts n rest → n < 100
two_small (TwoDigits.two_digits {c = c} {d = d} at first second) = omega (arith, digit_small c first, digit_small d second)

more_holds : (n : ℕ) (ts : List ℕ) → MoreDigits n ts (more_digits n ts).0 (more_digits n ts).1
more_holds n [] = MoreDigits.no_digit refl
more_holds n (c ∷ cs) = by (is_ascii_digit c) refl (more_holds (n * 10 + (c - 48)) cs)
  where
    by : (b : Bool) → is_ascii_digit c ≡ b → MoreDigits (n * 10 + (c - 48)) cs (more_digits (n * 10 + (c - 48)) cs).0 (more_digits (n * 10 + (c - 48)) cs).1
        → MoreDigits n (c ∷ cs) (if b then more_digits (n * 10 + (c - 48)) cs else (n, c ∷ cs)).0 (if b then more_digits (n * 10 + (c - 48)) cs else (n, c ∷ cs)).1
    by true e h = MoreDigits.digit refl e h
    by false e h = MoreDigits.no_digit e

no_more : (n : ℕ) (ts : List ℕ) → begins_with_digit ts ≡ false → more_digits n ts ≡ (n, ts)
no_more n [] e = refl
no_more n (c ∷ cs) e = rw e refl

more_reads : {n m : ℕ} {ts rest : List ℕ} → MoreDigits n ts m rest → more_digits n ts ≡ (m, rest)
more_reads (MoreDigits.no_digit {n = n} {ts = ts} e) = no_more n ts e
more_reads (MoreDigits.digit at is more) = rw (at, is) (more_reads more)

pub number_holds : (ts : List ℕ) (x : ℕ × List ℕ) → number ts ≡ Some x → Number ts x.0 x.1
number_holds ts x e = let h = cond_some (begins_with_digit ts) (more_digits 0 ts) x e in subst (λ y. Number ts y.0 y.1) h.1 (Number.number h.0 (more_holds 0 ts))

pub number_reads : {ts rest : List ℕ} {n : ℕ} → Number ts n rest → number ts ≡ Some (n, rest)
number_reads (Number.number is more) = rw (is, more_reads more) refl

abbrev HoldsDecimals : ℕ → ℕ → List ℕ → ℕ × List ℕ → Type 0
HoldsDecimals place sum ts x = (m : ℕ) × (x.0 ≡ sum + m) × Decimals place ts m x.1

ended : (place sum : ℕ) (ts : List ℕ) (x : ℕ × List ℕ) → begins_with_digit ts ≡ false → Some (sum, ts) ≡ Some x → HoldsDecimals place sum ts x
ended place sum ts x last e = subst (λ y. HoldsDecimals place sum ts y) (same_Some _ _ e) (0, omega arith, Decimals.no_decimal last)

decimals_hold : (place sum : ℕ) (ts : List ℕ) (x : ℕ × List ℕ) → decimals place sum ts ≡ Some x → HoldsDecimals place sum ts x
decimals_hold place sum [] x e = ended place sum [] x refl e
decimals_hold place sum (c ∷ cs) x e = by (is_ascii_digit c) refl e (decimals_hold (place / 10) (sum + (c - 48) * place) cs x)
  where
    by : (b : Bool) → is_ascii_digit c ≡ b → (if b then (if nat_lt 0 place then decimals (place / 10) (sum + (c - 48) * place) cs else None) else Some (sum, c ∷ cs)) ≡ Some x
        → (decimals (place / 10) (sum + (c - 48) * place) cs ≡ Some x → HoldsDecimals (place / 10) (sum + (c - 48) * place) cs x) → HoldsDecimals place sum (c ∷ cs) x
    by true is f more = at_place (nat_lt 0 place) refl f
      where
        at_place : (b : Bool) → nat_lt 0 place ≡ b → (if b then decimals (place / 10) (sum + (c - 48) * place) cs else None) ≡ Some x → HoldsDecimals place sum (c ∷ cs) x
        at_place true within g = let h = more g in ((c - 48) * place + h.0, omega (arith, h.1), Decimals.decimal refl is (ltb-true 0 place within) h.2)
        at_place false within g = absurd (cc)
    by false is f more = ended place sum (c ∷ cs) x is f

no_decimals : (place sum : ℕ) (ts : List ℕ) → begins_with_digit ts ≡ false → decimals place sum ts ≡ Some (sum + 0, ts)
no_decimals place sum [] e = ap (λ s. Some (s, [])) (omega arith)
no_decimals place sum (c ∷ cs) e = rw e (ap (λ s. Some (s, c ∷ cs)) (omega arith))

decimals_read : {place m : ℕ} {ts rest : List ℕ} → Decimals place ts m rest → (sum : ℕ) → decimals place sum ts ≡ Some (sum + m, rest)
decimals_read (Decimals.no_decimal {place = place} {ts = ts} e) sum = no_decimals place sum ts e
decimals_read (Decimals.decimal {place = place} {m = m} {c = c} {rest = rest} at is within more) sum =
    rw (at, is, lt-ltb 0 place within) (decimals_read more (sum + (c - 48) * place) ∙ ap (λ s. Some (s, rest)) (omega arith))

fraction_of_holds : (ts us : List ℕ) (x : ℕ × List ℕ) → ts ≡ 46 ∷ us → fraction_of us ≡ Some x → Fraction ts x.0 x.1
fraction_of_holds ts us x at e = by (begins_with_digit us) refl e
  where
    by : (b : Bool) → begins_with_digit us ≡ b → (if b then decimals 100000 0 us else None) ≡ Some x → Fraction ts x.0 x.1
    by true is f =
        let h = decimals_hold 100000 0 us x f in
        let same : h.0 ≡ x.0 = omega (arith, h.1) in
        subst (λ m. Fraction ts m x.1) same (Fraction.fraction at is h.2)
    by false is f = absurd (cc)

pub fraction_holds : (ts : List ℕ) (x : ℕ × List ℕ) → fraction ts ≡ Some x → Fraction ts x.0 x.1
fraction_holds ts x e = by (past 46 ts) refl e
  where
    by : (o : Option (List ℕ)) → past 46 ts ≡ o → fraction_at ts o ≡ Some x → Fraction ts x.0 x.1
    by None none f = subst (λ y. Fraction ts y.0 y.1) (same_Some _ _ f) (Fraction.no_fraction (no_past 46 ts none))
    by (Some us) is f = fraction_of_holds ts us x (past_holds 46 ts us is) f

pub fraction_reads : {ts rest : List ℕ} {m : ℕ} → Fraction ts m rest → fraction ts ≡ Some (m, rest)
fraction_reads (Fraction.no_fraction {ts = ts} none) = ap (fraction_at ts) (past_none 46 ts none)
fraction_reads (Fraction.fraction {m = m} {rest = rest} at is more) = rw (at, is) (decimals_read more 0 ∙ ap (λ s. Some (s, rest)) (omega arith))
