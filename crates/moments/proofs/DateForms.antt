-- The readings of dates against their forms.
use Rattle.std.proofs.Common.{◌≡◌, ℕ, ◌+◌, ◌*◌, ◌<◌, ◌≤◌, true, Some, List, refl, ap, subst, ◌∙◌, arith, ℤ, pos}
use Rattle.std.specs.Prelude.{nat_le, ◌&&◌}
use Rattle.std.proofs.lemmas.Bool.{le-leb, leb-true, and_parts, and_from}
use Rattle.std.proofs.lemmas.Option.{same_Some}
use Rattle.jiff_core.specs.Calendar.{IsCivilDate, days_in_month, days_from_civil}
use Rattle.std.proofs.lemmas.Int.{ints}
use Rattle.moments.specs.Inside.{only_if, past, two_digits, has_day, day_number, date}
use Rattle.moments.specs.Times.{Date}
use Rattle.moments.proofs.Steps.{bound, held, past_holds, past_reads}
use Rattle.moments.proofs.DigitForms.{two_holds, two_reads, two_small}

day_holds : (year month day : ℕ) → year < 10000 → has_day year month day ≡ true → (1 ≤ year) × IsCivilDate (pos year) month day
day_holds year month day small e =
    let days = and_parts (nat_le 1 year && nat_le 1 month && nat_le month 12 && nat_le 1 day) (nat_le day (days_in_month (pos year) month)) e in
    let from = and_parts (nat_le 1 year && nat_le 1 month && nat_le month 12) (nat_le 1 day) days.0 in
    let months = and_parts (nat_le 1 year && nat_le 1 month) (nat_le month 12) from.0 in
    let firsts = and_parts (nat_le 1 year) (nat_le 1 month) months.0 in
    (leb-true _ _ firsts.0, ((omega (arith, ints), omega (arith, ints)), (leb-true _ _ firsts.1, leb-true _ _ months.1), (leb-true _ _ from.1, leb-true _ _ days.1)))

day_reads : (year month day : ℕ) → 1 ≤ year → IsCivilDate (pos year) month day → day_number year month day ≡ Some (days_from_civil (pos year) month day)
day_reads year month day from_1 civil =
    ap (λ b. only_if b (days_from_civil (pos year) month day))
    (and_from _ _ (and_from _ _ (and_from _ _ (and_from _ _ (le-leb 1 year from_1) (le-leb 1 month civil.1.0)) (le-leb month 12 civil.1.1)) (le-leb 1 day civil.2.0)) (le-leb day (days_in_month (pos year) month) civil.2.1))

day_number_holds : (year month day : ℕ) (z : ℤ) → year < 10000 → day_number year month day ≡ Some z → (1 ≤ year) × IsCivilDate (pos year) month day × (days_from_civil (pos year) month day ≡ z)
day_number_holds year month day z small e =
    let h = held (has_day year month day) (days_from_civil (pos year) month day) z e in
    let d = day_holds year month day small h.0 in
    (d.0, d.1, h.1)

pub date_holds : (ts : List ℕ) (x : ℤ × List ℕ) → date ts ≡ Some x → Date ts x.0 x.1
date_holds ts x e =
    let century = bound (two_digits ts) _ x e in
    let year = bound (two_digits century.0.1) _ x century.2 in
    let dash = bound (past 45 year.0.1) _ x year.2 in
    let month = bound (two_digits dash.0) _ x dash.2 in
    let sign = bound (past 45 month.0.1) _ x month.2 in
    let day = bound (two_digits sign.0) _ x sign.2 in
    let number = bound (day_number (century.0.0 * 100 + year.0.0) month.0.0 day.0.0) _ x day.2 in
    let first = two_holds ts century.0 century.1 in
    let second = two_holds century.0.1 year.0 year.1 in
    let d = day_number_holds (century.0.0 * 100 + year.0.0) month.0.0 day.0.0 number.0 (omega (arith, two_small first, two_small second)) number.1 in
    subst (λ y. Date ts y.0 y.1) (ap (λ z. (z, day.0.1)) d.2 ∙ same_Some _ _ number.2)
    (Date.date first second (past_holds 45 year.0.1 dash.0 dash.1) (two_holds dash.0 month.0 month.1) (past_holds 45 month.0.1 sign.0 sign.1) (two_holds sign.0 day.0 day.1) d.0 d.1)

pub date_reads : {ts rest : List ℕ} {z : ℤ} → Date ts z rest → date ts ≡ Some (z, rest)
date_reads (Date.date {century = century} {year = year} {month = month} {day = day} {vs = vs} {ws = ws} {xs = xs} {ys = ys} first second at third sign fourth from_1 civil) =
    rw (two_reads first, two_reads second, past_reads 45 vs ws at, two_reads third, past_reads 45 xs ys sign, two_reads fourth, day_reads (century * 100 + year) month day from_1 civil) refl
