-- The readings of times against their forms.
use Rattle.std.proofs.Common.{◌≡◌, ℕ, ◌+◌, ◌*◌, ◌⊎◌, inl, inr, Bool, true, false, if◌then◌else◌, Option, None, Some, List, [], ◌∷◌, refl, ap, subst, ◌∙◌, arith, ℤ, pos, neg_ℤ, ◌+ℤ◌, ◌-ℤ◌, ◌*ℤ◌, sym, T}
use Rattle.std.specs.Prelude.{◌==◌, MatchOption}
use Rattle.std.specs.Int.Signed.{le_z, le_z_yes}
use Rattle.std.specs.Char.{is_ascii_digit}
use Rattle.std.proofs.lemmas.Bool.{eqb-true, ne_eqb}
use Rattle.std.proofs.lemmas.Int.{ints}
use Rattle.std.proofs.lemmas.Option.{same_Some, MatchOption-at_some}
use Rattle.moments.specs.Inside.{◌>>◌, past, number, fraction, date, clock, offset, is_empty, time_of_day, behind_date, civil, seconds, signed_seconds}
use Rattle.moments.specs.Times.{begins_with_digit, day_micros, minute_micros, TwoDigits, Number, Fraction, Date, Form, IsInYears, IsTime}
use Rattle.moments.proofs.Steps.{bound, held, past_holds}
use Rattle.moments.proofs.DigitForms.{number_holds, number_reads, fraction_holds, fraction_reads}
use Rattle.moments.proofs.ClockForms.{nothing, clock_holds, clock_reads, offset_holds, offset_reads}
use Rattle.moments.proofs.DateForms.{date_holds, date_reads}

no_sign : (c : ℕ) → is_ascii_digit c ≡ true → (c == 45) ≡ false
no_sign c is = ne_eqb c 45 (λ same. let wrong : is_ascii_digit 45 ≡ true = subst (λ d. is_ascii_digit d ≡ true) same is in absurd (cc))

-- a date begins as no seconds do
no_seconds : {ts rest : List ℕ} {z : ℤ} → Date ts z rest → signed_seconds ts ≡ None
no_seconds (Date.date (TwoDigits.two_digits {c = a} {d = b} at first second) (TwoDigits.two_digits {c = c} {d = d} behind third fourth) sign _ _ _ _ _) =
    rw (at, behind, sign, no_sign a first, first, second, third, fourth) refl

not_civil : (ts : List ℕ) (t : ℤ) → signed_seconds ts ≡ Some t → civil ts ≡ None
not_civil ts t e = by (civil ts) refl
  where
    by : (o : Option ℤ) → civil ts ≡ o → o ≡ None
    by None f = refl
    by (Some z) f = let day = bound (date ts) _ z f in let none = no_seconds (date_holds ts day.0 day.1) in absurd (cc)

abbrev HoldsSeconds : List ℕ → ℕ → Type 0
HoldsSeconds ts m = (n : ℕ) × (micros : ℕ) × (us : List ℕ) × Number ts n us × Fraction us micros [] × (n * 1000000 + micros ≡ m)

seconds_hold : (ts : List ℕ) (m : ℕ) → seconds ts ≡ Some m → HoldsSeconds ts m
seconds_hold ts m e =
    let n = bound (number ts) _ m e in
    let micros = bound (fraction n.0.1) _ m n.2 in
    let h = held (is_empty micros.0.1) (n.0.0 * 1000000 + micros.0.0) m micros.2 in
    (n.0.0, micros.0.0, n.0.1, number_holds ts n.0 n.1, subst (λ rest. Fraction n.0.1 micros.0.0 rest) (nothing micros.0.1 h.0) (fraction_holds n.0.1 micros.0 micros.1), h.1)

seconds_read : {ts us : List ℕ} {n micros : ℕ} → Number ts n us → Fraction us micros [] → seconds ts ≡ Some (n * 1000000 + micros)
seconds_read first second = rw (number_reads first, fraction_reads second) refl

pub signed_holds : (ts : List ℕ) (t : ℤ) → signed_seconds ts ≡ Some t → Form ts t
signed_holds [] t e = absurd (cc)
signed_holds (c ∷ cs) t e = by (c == 45) refl e
  where
    by : (b : Bool) → (c == 45) ≡ b → (if b then (seconds cs >> (λ n. Some (neg_ℤ (pos n)))) else (seconds (c ∷ cs) >> (λ n. Some (pos n)))) ≡ Some t → Form (c ∷ cs) t
    by true sign f =
        let m = bound (seconds cs) _ t f in
        let h = seconds_hold cs m.0 m.1 in
        subst (Form (c ∷ cs)) (ap (λ k. neg_ℤ (pos k)) h.5 ∙ same_Some _ _ m.2) (Form.seconds_before (ap (λ x. x ∷ cs) (eqb-true c 45 sign)) h.3 h.4)
    by false sign f =
        let m = bound (seconds (c ∷ cs)) _ t f in
        let h = seconds_hold (c ∷ cs) m.0 m.1 in
        subst (Form (c ∷ cs)) (ap pos h.5 ∙ same_Some _ _ m.2) (Form.seconds h.3 h.4)

unsigned : (ts : List ℕ) → begins_with_digit ts ≡ true → signed_seconds ts ≡ (seconds ts >> (λ n. Some (pos n)))
unsigned [] e = absurd (cc)
unsigned (c ∷ cs) e = rw (no_sign c e) refl

begins : {ts us : List ℕ} {n : ℕ} → Number ts n us → begins_with_digit ts ≡ true
begins (Number.number is more) = is

pub civil_holds : (ts : List ℕ) (t : ℤ) → civil ts ≡ Some t → Form ts t
civil_holds ts t e =
    let day = bound (date ts) _ t e in
    let micros = bound (behind_date day.0.1) _ t day.2 in
    by day.0 micros.0 (date_holds ts day.0 day.1) (same_Some _ _ micros.2) (is_empty day.0.1) refl micros.1
  where
    by : (day : ℤ × List ℕ) (micros : ℤ) → Date ts day.0 day.1 → ((day.0 *ℤ day_micros) +ℤ micros) ≡ t → (b : Bool) → is_empty day.1 ≡ b
        → (if b then Some (pos 0) else (past 84 day.1 >> time_of_day)) ≡ Some micros → Form ts t
    by day micros front same true last f =
        let none : pos 0 ≡ micros = same_Some _ _ f in
        let all : day.0 *ℤ day_micros ≡ t = omega (arith, ints, none, same) in
        subst (Form ts) all (Form.day (subst (λ us. Date ts day.0 us) (nothing day.1 last) front))
    by day micros front same false last f =
        let mark = bound (past 84 day.1) _ micros f in
        let n = bound (clock mark.0) _ micros mark.2 in
        let ahead = bound (offset n.0.1) _ micros n.2 in
        let rest : pos n.0.0 -ℤ (ahead.0 *ℤ minute_micros) ≡ micros = same_Some _ _ ahead.2 in
        let all : (day.0 *ℤ day_micros +ℤ pos n.0.0) -ℤ (ahead.0 *ℤ minute_micros) ≡ t = omega (arith, ints, rest, same) in
        subst (Form ts) all (Form.day_and_time front (past_holds 84 day.1 mark.0 mark.1) (clock_holds mark.0 n.0 n.1) (offset_holds n.0.1 ahead.0 ahead.1))

abbrev IsRead : List ℕ → ℤ → Type 0
IsRead ts t = (civil ts ≡ Some t) ⊎ ((civil ts ≡ None) × (signed_seconds ts ≡ Some t))

as_seconds : (ts : List ℕ) (t : ℤ) → signed_seconds ts ≡ Some t → IsRead ts t
as_seconds ts t e = inr (not_civil ts t e, e)

-- what has the form of a time is read
reads : {ts : List ℕ} {t : ℤ} → Form ts t → IsRead ts t
reads (Form.seconds {ts = ts} first second) = as_seconds ts _ (unsigned ts (begins first) ∙ ap (λ o. o >> (λ n. Some (pos n))) (seconds_read first second))
reads (Form.seconds_before {ts = ts} sign first second) = as_seconds ts _ (rw (sign, seconds_read first second) refl)
reads (Form.day {day = day} front) = inl (rw (date_reads front) (ap Some (omega (arith, ints))))
reads (Form.day_and_time {day = day} {offset = offset} {micros = micros} {us = us} {vs = vs} front mark first second) =
    inl (rw (date_reads front, mark, clock_reads first, offset_reads second) (ap Some (omega (arith, ints))))

one : (ts : List ℕ) (a b : ℤ) → Form ts a → Form ts b → a ≡ b
one ts a b first second = by (reads first) (reads second)
  where
    by : IsRead ts a → IsRead ts b → a ≡ b
    by (inl e) (inl f) = cc
    by (inl e) (inr f) = absurd (cc (f.0))
    by (inr e) (inl f) = absurd (cc (e.0))
    by (inr e) (inr f) = cc (e.1, f.1)

-- a text names one instant
pub one_time : (ts : List ℕ) (a b : ℤ) → IsTime ts a → IsTime ts b → a ≡ b
one_time ts a b first second = one ts a b first.0 second.0

-- where the one instant of a form is in no year, there is no time
pub no_time_else : (ts : List ℕ) (a : ℤ) → Form ts a → (IsInYears a → ⊥) → (b : ℤ) → IsTime ts b → ⊥
no_time_else ts a form out b time = out (subst IsInYears (one ts b a time.0 form) time.1)

-- where nothing is read, or what is far, there is no time
pub no_time : (ts : List ℕ) → civil ts ≡ None → MatchOption (signed_seconds ts) (Unit {0}) (λ a. IsInYears a → ⊥) → (b : ℤ) → IsTime ts b → ⊥
no_time ts none far b time = by (reads time.0)
  where
    by : IsRead ts b → ⊥
    by (inl e) = absurd (cc (e, none))
    by (inr e) = MatchOption-at_some (Unit {0}) (λ a. IsInYears a → ⊥) b e.1 far time.1

abbrev first : ℤ
first = neg_ℤ (pos 62135596800000000)

abbrev last : ℤ
last = pos 253402300799999999

abbrev IsTold : List ℕ → Type 0
IsTold ts = ((t : ℤ) × IsTime ts t) ⊎ ((t : ℤ) → IsTime ts t → ⊥)

-- a form's instant is in the years, or the text is no time
of_form : (ts : List ℕ) (a : ℤ) → Form ts a → IsTold ts
of_form ts a form = by (le_z first a) refl (le_z a last) refl
  where
    by : (m : Bool) → le_z first a ≡ m → (n : Bool) → le_z a last ≡ n → IsTold ts
    by true p true q = inl (a, (form, record { from_1 = le_z_yes (subst T (sym p) tt); to_9999 = le_z_yes (subst T (sym q) tt) }))
    by false p n q = inr (no_time_else ts a form (λ years. absurd (subst T p years.from_1.le)))
    by m p false q = inr (no_time_else ts a form (λ years. absurd (subst T q years.to_9999.le)))

-- a text is a time or none
pub told : (ts : List ℕ) → IsTold ts
told ts = by (civil ts) refl (signed_seconds ts) refl
  where
    by : (c : Option ℤ) → civil ts ≡ c → (s : Option ℤ) → signed_seconds ts ≡ s → IsTold ts
    by (Some t) p s q = of_form ts t (civil_holds ts t p)
    by None p (Some t) q = of_form ts t (signed_holds ts t q)
    by None p None q = inr (no_time ts p (rw (q) tt))
