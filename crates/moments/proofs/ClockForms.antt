-- The readings of times of day and of offsets against their forms.
use Rattle.std.proofs.Common.{◌≡◌, ℕ, ◌+◌, ◌*◌, Bool, true, false, if◌then◌else◌, Option, None, Some, List, [], ◌∷◌, refl, ap, subst, ◌∙◌, ℤ, pos, neg_ℤ}
use Rattle.std.specs.Prelude.{nat_lt, ◌==◌, ◌&&◌}
use Rattle.std.proofs.lemmas.Bool.{lt-ltb, ltb-true, and_parts, and_from, eqb-true}
use Rattle.std.proofs.lemmas.Option.{same_Some}
use Rattle.moments.specs.Inside.{◌>>◌, only_if, past, two_digits, fraction, minutes, clock, is_empty, last_minutes, offset_mark, offset}
use Rattle.moments.specs.Times.{TwoDigits, Minutes, Clock, Offset}
use Rattle.moments.proofs.Steps.{bound, held, past_holds, past_reads}
use Rattle.moments.proofs.DigitForms.{two_holds, two_reads, fraction_holds, fraction_reads}

pub minutes_hold : (ts : List ℕ) (x : ℕ × List ℕ) → minutes ts ≡ Some x → Minutes ts x.0 x.1
minutes_hold ts x e =
    let hour = bound (two_digits ts) _ x e in
    let colon = bound (past 58 hour.0.1) _ x hour.2 in
    let minute = bound (two_digits colon.0) _ x colon.2 in
    let fits = held (nat_lt hour.0.0 24 && nat_lt minute.0.0 60) (hour.0.0 * 60 + minute.0.0, minute.0.1) x minute.2 in
    let parts = and_parts (nat_lt hour.0.0 24) (nat_lt minute.0.0 60) fits.0 in
    subst (λ y. Minutes ts y.0 y.1) fits.1
    (Minutes.minutes (two_holds ts hour.0 hour.1) (past_holds 58 hour.0.1 colon.0 colon.1) (two_holds colon.0 minute.0 minute.1) (ltb-true _ _ parts.0) (ltb-true _ _ parts.1))

pub minutes_read : {ts rest : List ℕ} {n : ℕ} → Minutes ts n rest → minutes ts ≡ Some (n, rest)
minutes_read (Minutes.minutes {hour = hour} {minute = minute} {us = us} {vs = vs} first at second early full) =
    rw (two_reads first, past_reads 58 us vs at, two_reads second, and_from _ _ (lt-ltb hour 24 early) (lt-ltb minute 60 full)) refl

pub clock_holds : (ts : List ℕ) (x : ℕ × List ℕ) → clock ts ≡ Some x → Clock ts x.0 x.1
clock_holds ts x e =
    let n = bound (minutes ts) _ x e in
    let colon = bound (past 58 n.0.1) _ x n.2 in
    let second = bound (two_digits colon.0) _ x colon.2 in
    by n.0 colon.0 second.0 (minutes_hold ts n.0 n.1) (past_holds 58 n.0.1 colon.0 colon.1) (two_holds colon.0 second.0 second.1) (nat_lt second.0.0 60) refl second.2
  where
    by : (n : ℕ × List ℕ) (vs : List ℕ) (second : ℕ × List ℕ) → Minutes ts n.0 n.1 → n.1 ≡ 58 ∷ vs → TwoDigits vs second.0 second.1 → (b : Bool) → nat_lt second.0 60 ≡ b
        → (if b then (fraction second.1 >> (λ micros. Some ((n.0 * 60 + second.0) * 1000000 + micros.0, micros.1))) else None) ≡ Some x → Clock ts x.0 x.1
    by n vs second first at two true full f =
        let micros = bound (fraction second.1) _ x f in
        subst (λ y. Clock ts y.0 y.1) (same_Some _ _ micros.2) (Clock.clock first at two (ltb-true _ _ full) (fraction_holds second.1 micros.0 micros.1))
    by n vs second first at two false full f = absurd (cc)

pub clock_reads : {ts rest : List ℕ} {n : ℕ} → Clock ts n rest → clock ts ≡ Some (n, rest)
clock_reads (Clock.clock {second = second} {us = us} {vs = vs} first at two full decimals) =
    rw (minutes_read first, past_reads 58 us vs at, two_reads two, lt-ltb second 60 full, fraction_reads decimals) refl

pub nothing : (us : List ℕ) → is_empty us ≡ true → us ≡ []
nothing [] e = refl
nothing (c ∷ cs) e = absurd (cc)

last_hold : (ts : List ℕ) (n : ℕ) → last_minutes ts ≡ Some n → Minutes ts n []
last_hold ts n e =
    let x = bound (minutes ts) _ n e in
    let h = held (is_empty x.0.1) x.0.0 n x.2 in
    by x.0 (minutes_hold ts x.0 x.1) h.0 h.1
  where
    by : (x : ℕ × List ℕ) → Minutes ts x.0 x.1 → is_empty x.1 ≡ true → x.0 ≡ n → Minutes ts n []
    by x h empty same = rw (← same, ← nothing x.1 empty) h

last_read : {ts : List ℕ} {n : ℕ} → Minutes ts n [] → last_minutes ts ≡ Some n
last_read h = rw (minutes_read h) refl

offset_mark_holds : (ts us : List ℕ) (c : ℕ) (z : ℤ) → ts ≡ c ∷ us → offset_mark c us ≡ Some z → Offset ts z
offset_mark_holds ts us c z at e = by_utc (c == 90) refl e
  where
    behind : Bool → Option ℤ
    behind b = if b then (last_minutes us >> (λ n. Some (neg_ℤ (pos n)))) else None

    ahead : Bool → Option ℤ
    ahead b = if b then (last_minutes us >> (λ n. Some (pos n))) else behind (c == 45)

    utc : Bool → Option ℤ
    utc b = if b then only_if (is_empty us) (pos 0) else ahead (c == 43)

    mark : (d : ℕ) → (c == d) ≡ true → ts ≡ d ∷ us
    mark d same = at ∙ ap (λ x. x ∷ us) (eqb-true c d same)

    by_behind : (b : Bool) → (c == 45) ≡ b → behind b ≡ Some z → Offset ts z
    by_behind true same f = let n = bound (last_minutes us) _ z f in subst (Offset ts) (same_Some _ _ n.2) (Offset.behind (mark 45 same) (last_hold us n.0 n.1))
    by_behind false same f = absurd (cc)

    by_ahead : (b : Bool) → (c == 43) ≡ b → ahead b ≡ Some z → Offset ts z
    by_ahead true same f = let n = bound (last_minutes us) _ z f in subst (Offset ts) (same_Some _ _ n.2) (Offset.ahead (mark 43 same) (last_hold us n.0 n.1))
    by_ahead false same f = by_behind (c == 45) refl f

    by_utc : (b : Bool) → (c == 90) ≡ b → utc b ≡ Some z → Offset ts z
    by_utc true same f = let h = held (is_empty us) (pos 0) z f in subst (Offset ts) h.1 (Offset.utc (mark 90 same ∙ ap (λ xs. 90 ∷ xs) (nothing us h.0)))
    by_utc false same f = by_ahead (c == 43) refl f

pub offset_holds : (ts : List ℕ) (z : ℤ) → offset ts ≡ Some z → Offset ts z
offset_holds [] z e = subst (Offset []) (same_Some _ _ e) (Offset.no_offset refl)
offset_holds (c ∷ us) z e = offset_mark_holds (c ∷ us) us c z refl e

pub offset_reads : {ts : List ℕ} {z : ℤ} → Offset ts z → offset ts ≡ Some z
offset_reads (Offset.no_offset at) = rw at refl
offset_reads (Offset.utc at) = rw at refl
offset_reads (Offset.ahead at first) = rw (at, last_read first) refl
offset_reads (Offset.behind at first) = rw (at, last_read first) refl
