-- The parts of a date of HTTP, as they are computed.
use Rattle.std.proofs.Common.{◌≡◌, ℕ, Bool, true, false, ◌+◌, ◌-◌, ◌*◌, ◌<◌, ◌≤◌, pos, nat_lt, subst, add-one, refl, sym, ap, arith}
use Rattle.std.proofs.lemmas.Bool.{cond-true, cond-false}
use borrow.Author.Tests.{ltb-true, ltb-false}
use Rattle.jiff_core.specs.March.{march_days}
use Rattle.jiff_core.proofs.MarchLemmas.{leap_day, day_in_month, day_in_early_month, march_days-suc}
use Rattle.httpdate.specs.Calendar.{weekday, days_from_civil, IsCivilDate}
use Rattle.httpdate.specs.Valid.{IsValid, parts_secs}
use Rattle.time_texts.specs.declared.civil.CivilDate.{CivilDate}
use Rattle.time_texts.specs.Civil.{march_year, march_day, march_month, month_day, civil_date}
use Rattle.time_texts.specs.Texts.{http_parts}
use Rattle.time_texts.proofs.HttpDates.{same_day}
use Rattle.time_texts.proofs.MarchYears.{year_and_day, day_small, count_late, count_early}

-- the calendar has the date, and its day is the number
pub record Fits (days : ℕ) (date : CivilDate) : Type 0 where
  pub civil : IsCivilDate date.year date.month date.day
  pub day : days_from_civil date.year date.month date.day + 719_162 ≡ days

within : (march : ℕ) → march < 7_400_000 → march < march_days (march_year march + 1)
within march small = omega arith

fits_late : (days : ℕ) → 719_162 ≤ days → days < 3_652_059 → march_month (march_day (days + 306)) ≤ 12
    → Fits days (record { year = march_year (days + 306); month = march_month (march_day (days + 306)); day = month_day (march_day (days + 306)) })
fits_late days from small month =
    let year = march_year (days + 306) in
    let day = march_day (days + 306) in
    let few : day < 366 = day_small (days + 306) (omega arith) in
    let whole : march_days year + day ≡ days + 306 = year_and_day (days + 306) (omega arith) in
    let old : 1970 ≤ year = omega arith in
    let long = day_in_month (pos year) day month in
    record {
      civil = ((old, omega arith), (omega arith, month), (omega arith, long));
      day = omega (arith, same_day year (march_month day) (month_day day) old (omega arith), count_late days small month);
    }

fits_early : (days : ℕ) → 719_162 ≤ days → days < 3_652_059 → 12 < march_month (march_day (days + 306))
    → Fits days (record { year = march_year (days + 306) + 1; month = march_month (march_day (days + 306)) - 12; day = month_day (march_day (days + 306)) })
fits_early days from small month =
    let year = march_year (days + 306) in
    let day = march_day (days + 306) in
    let few : day < 366 = day_small (days + 306) (omega arith) in
    let whole : march_days year + day ≡ days + 306 = year_and_day (days + 306) (omega arith) in
    let old : 1970 ≤ year + 1 = omega arith in
    let next = subst (λ (k : ℕ). march_days k ≡ march_days year + 365 + leap_day (pos k)) (sym (add-one year)) (march_days-suc year) in
    let short : day < 365 + leap_day (pos (year + 1)) = omega (arith, next, within (days + 306) (omega arith), whole) in
    let long = day_in_early_month (pos (year + 1)) day month short in
    record {
      civil = ((old, omega arith), (omega arith, omega arith), (omega arith, long));
      day = omega (arith, same_day (year + 1) (march_month day - 12) (month_day day) old (omega arith), count_early days small month);
    }

by_month : (days : ℕ) (t : Bool) → nat_lt 12 (march_month (march_day (days + 306))) ≡ t → 719_162 ≤ days → days < 3_652_059 → Fits days (civil_date days)
by_month days true is from small =
    subst (Fits days) (sym (cond-true (nat_lt 12 (march_month (march_day (days + 306)))) _ _ is)) (fits_early days from small (ltb-true _ _ is))
by_month days false is from small =
    subst (Fits days) (sym (cond-false (nat_lt 12 (march_month (march_day (days + 306)))) _ _ is)) (fits_late days from small (ltb-false _ _ is))

pub fits : (days : ℕ) → 719_162 ≤ days → days < 3_652_059 → Fits days (civil_date days)
fits days from small = by_month days (nat_lt 12 (march_month (march_day (days + 306)))) refl from small

-- the parts are those of a date
pub valid : (date : CivilDate) (days second : ℕ) → Fits days date → second < 86_400 → IsValid (http_parts date days second)
valid date days second f small =
    let day : days - 719_162 ≡ days_from_civil date.year date.month date.day = omega (arith, f.day) in
    (f.civil, (omega arith, omega arith, omega arith), ap weekday day)

-- and of its second
pub seconds : (date : CivilDate) (days second : ℕ) → Fits days date → second < 86_400
    → parts_secs (http_parts date days second) + 719_162 * 86_400 ≡ days * 86_400 + second
seconds date days second f small = omega (arith, f.day)
