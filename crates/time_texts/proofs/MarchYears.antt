-- The date that is computed is that of the day.
use Rattle.std.proofs.Common.{◌≡◌, ℕ, ◌+◌, ◌-◌, ◌<◌, ◌≤◌, pos, ◌+ℤ◌, arith}
use Rattle.jiff_core.specs.Calendar.{days_from_civil, day_count}
use Rattle.jiff_core.specs.March.{march_days}
use Rattle.jiff_core.proofs.CalendarLemmas.{days_from_civil-day_count}
use Rattle.jiff_core.proofs.MarchLemmas.{day_count-early, day_count-late, month_and_day}
use Rattle.jiff_core.proofs.SignedLemmas.{signed_arith}
use Rattle.time_texts.specs.Civil.{march_year, march_day, march_month, month_day}

-- the days of the years before and the days in the year are all of them
pub year_and_day : (march : ℕ) → march < 7_400_000 → march_days (march_year march) + march_day march ≡ march
year_and_day march small = omega arith

pub day_small : (march : ℕ) → march < 7_400_000 → march_day march < 366
day_small march small = omega arith

-- 25 times 400 years
shifted : (year : ℕ) → march_days (year + 10_000) ≡ march_days year + 3_652_425
shifted year = omega arith

from_count : (year month day days : ℕ) → day_count (pos year) month day ≡ days + 3_652_791
    → days_from_civil (pos year) month day +ℤ pos 719_162 ≡ pos days
from_count year month day days count = omega (arith, signed_arith, days_from_civil-day_count (pos year) month day)

-- the months 3 to 12
pub count_late : (days : ℕ) → days < 3_652_059 → march_month (march_day (days + 306)) ≤ 12
    → day_count (pos (march_year (days + 306))) (march_month (march_day (days + 306))) (month_day (march_day (days + 306))) ≡ days + 3_652_791
count_late days small month =
    let year = march_year (days + 306) in
    let day = march_day (days + 306) in
    let few : day < 366 = day_small (days + 306) (omega arith) in
    let first : 3 ≤ march_month day = omega arith in
    let count = day_count-late (pos year) (year + 10_000) (march_month day) (month_day day) (omega (arith, signed_arith)) first month (omega arith) in
    let whole : march_days year + day ≡ days + 306 = year_and_day (days + 306) (omega arith) in
    omega (arith, count, shifted year, whole, month_and_day day few)

pub late : (days : ℕ) → days < 3_652_059 → march_month (march_day (days + 306)) ≤ 12
    → days_from_civil (pos (march_year (days + 306))) (march_month (march_day (days + 306))) (month_day (march_day (days + 306))) +ℤ pos 719_162 ≡ pos days
late days small month = from_count _ _ _ days (count_late days small month)

-- January and February of the next year
pub count_early : (days : ℕ) → days < 3_652_059 → 12 < march_month (march_day (days + 306))
    → day_count (pos (march_year (days + 306) + 1)) (march_month (march_day (days + 306)) - 12) (month_day (march_day (days + 306))) ≡ days + 3_652_791
count_early days small month =
    let year = march_year (days + 306) in
    let day = march_day (days + 306) in
    let few : day < 366 = day_small (days + 306) (omega arith) in
    let last : march_month day ≤ 14 = omega arith in
    let count = day_count-early (pos (year + 1)) (year + 10_000) (march_month day - 12) (month_day day) (omega (arith, signed_arith)) (omega arith) (omega arith) (omega arith) in
    let back : march_month day - 12 + 12 ≡ march_month day = omega arith in
    let whole : march_days year + day ≡ days + 306 = year_and_day (days + 306) (omega arith) in
    omega (arith, rw back at count, shifted year, whole, month_and_day day few)

pub early : (days : ℕ) → days < 3_652_059 → 12 < march_month (march_day (days + 306))
    → days_from_civil (pos (march_year (days + 306) + 1)) (march_month (march_day (days + 306)) - 12) (month_day (march_day (days + 306))) +ℤ pos 719_162 ≡ pos days
early days small month = from_count _ _ _ days (count_early days small month)
