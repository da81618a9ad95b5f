-- The date of a day, after Neri and Schneider, "Euclidean affine functions and their application to calendar
-- algorithms": years begin in March, so that a leap day comes last, and have the months 3 to 14.
use Rattle.std.specs.Prelude.{ℕ, ◌+◌, ◌-◌, ◌*◌, ◌/◌, ◌%◌, nat_lt, if◌then◌else◌}
use Rattle.time_texts.specs.declared.civil.CivilDate.{CivilDate}

-- of the days since 1 March of the year 0, four of them in the 146097 days of four centuries
abbrev pub century : ℕ → ℕ
century march = (4 * march + 3) / 146097

-- four times the days in the century, and three
abbrev pub in_century : ℕ → ℕ
in_century march = (4 * march + 3) % 146097 / 4 * 4 + 3

abbrev pub march_year : ℕ → ℕ
march_year march = 100 * century march + in_century march / 1461

-- the days since the year's 1 March
abbrev pub march_day : ℕ → ℕ
march_day march = in_century march % 1461 / 4

-- the month, from 3 to 14
abbrev pub march_month : ℕ → ℕ
march_month of_year = (5 * of_year + 461) / 153

abbrev pub month_day : ℕ → ℕ
month_day of_year = (5 * of_year + 461) % 153 / 5 + 1

-- the months 13 and 14 are January and February of the next year
abbrev pub from_march : ℕ → ℕ → CivilDate
from_march year of_year =
    if nat_lt 12 (march_month of_year)
    then record { year = year + 1; month = march_month of_year - 12; day = month_day of_year }
    else record { year = year; month = march_month of_year; day = month_day of_year }

-- the date that lies so many days after 0001-01-01, which is 306 days after 0000-03-01
abbrev pub civil_date : ℕ → CivilDate
civil_date days = from_march (march_year (days + 306)) (march_day (days + 306))
