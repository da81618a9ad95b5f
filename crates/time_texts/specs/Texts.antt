-- Moments, in microseconds since 1970 begins, as texts.
use Rattle.std.specs.Prelude.{ℕ, ◌+◌, ◌-◌, ◌/◌, ◌%◌, ◌==◌, nat_le, Bool, ◌&&◌, if◌then◌else◌, List, [], ◌∷◌, ◌++◌, codes, ℤ, pos, negsuc, ◌+ℤ◌, int_le, int_lt, unsigned_abs}
use Rattle.std.specs.Int.{int_div_euclid}
use Rattle.httpdate.specs.Calendar.{weekday}
use Rattle.httpdate.specs.Text.{imf_fixdate}
use Rattle.httpdate.specs.declared.parts.Parts.{Parts}
use Rattle.time_texts.specs.declared.civil.CivilDate.{CivilDate}
use Rattle.time_texts.specs.Civil.{civil_date}

-- whole seconds, rounded down
abbrev pub unix_seconds : ℤ → ℤ
unix_seconds t = int_div_euclid t (pos 1_000_000)

-- in the years 0001 to 9999
abbrev pub is_in_years : ℤ → Bool
is_in_years t = int_le (negsuc 62_135_596_799_999_999) t && int_lt t (pos 253_402_300_800_000_000)

-- in the years 1970 to 9999
abbrev pub has_rfc822 : ℤ → Bool
has_rfc822 t = int_le (pos 0) t && int_lt t (pos 253_402_300_800_000_000)

-- microseconds since the year 1 begins
abbrev pub since_year_1 : ℤ → ℕ
since_year_1 t = unsigned_abs (t +ℤ pos 62_135_596_800_000_000)

-- whole seconds since the year 1 begins
abbrev pub seconds_of : ℤ → ℕ
seconds_of t = since_year_1 t / 1_000_000

-- days since 0001-01-01
abbrev pub day_of : ℤ → ℕ
day_of t = seconds_of t / 86_400

-- the second of the day
abbrev pub second_of : ℤ → ℕ
second_of t = seconds_of t % 86_400

-- the microsecond of the second
abbrev pub fraction_of : ℤ → ℕ
fraction_of t = since_year_1 t % 1_000_000

-- a number below 100
abbrev pub two_digits : ℕ → List ℕ
two_digits n = (48 + n / 10) ∷ (48 + n % 10) ∷ []

-- a number below 10000
abbrev pub four_digits : ℕ → List ℕ
four_digits n = two_digits (n / 100) ++ two_digits (n % 100)

-- YYYY-MM-DD
abbrev pub date_text : CivilDate → List ℕ
date_text date = four_digits date.year ++ codes "-" ++ two_digits date.month ++ codes "-" ++ two_digits date.day

-- HH:MM:SS
abbrev pub clock_text : ℕ → List ℕ
clock_text second = two_digits (second / 3600) ++ codes ":" ++ two_digits (second / 60 % 60) ++ codes ":" ++ two_digits (second % 60)

-- six decimals, where the microseconds aren't 0
abbrev pub fraction_text : ℕ → List ℕ
fraction_text n = if n == 0 then [] else codes "." ++ two_digits (n / 10_000) ++ four_digits (n % 10_000)

-- YYYY-MM-DDTHH:MM:SSZ, ISO 8601's extended form in UTC
abbrev pub iso8601 : ℤ → List ℕ
iso8601 t = date_text (civil_date (day_of t)) ++ codes "T" ++ clock_text (second_of t) ++ fraction_text (fraction_of t) ++ codes "Z"

-- ISO 8601 has four digits for the years 0001 to 9999; other moments have no text
abbrev pub iso8601_text : ℤ → List ℕ
iso8601_text t = if is_in_years t then iso8601 t else []

-- YYYYMMDD
abbrev pub day_text : CivilDate → List ℕ
day_text date = four_digits date.year ++ two_digits date.month ++ two_digits date.day

-- HHMMSS
abbrev pub time_text : ℕ → List ℕ
time_text second = two_digits (second / 3600) ++ two_digits (second / 60 % 60) ++ two_digits (second % 60)

-- the date of a moment in seconds since 1970, which begins 719162 days after 0001-01-01
abbrev pub date_at : ℕ → CivilDate
date_at seconds = civil_date (719_162 + seconds / 86_400)

-- the date in ISO 8601's basic form, YYYYMMDD, up to the year 9999; later moments have no text
abbrev pub basic_date : ℕ → List ℕ
basic_date seconds = if nat_le 253_402_300_800 seconds then [] else day_text (date_at seconds)

-- YYYYMMDDTHHMMSSZ, ISO 8601's basic form in UTC
abbrev pub basic_text : ℕ → List ℕ
basic_text seconds =
    if nat_le 253_402_300_800 seconds then []
    else day_text (date_at seconds) ++ codes "T" ++ time_text (seconds % 86_400) ++ codes "Z"

-- date, time and weekday, from 719162 days after 0001-01-01 on, which is 1970-01-01
abbrev pub http_parts : CivilDate → ℕ → ℕ → Parts
http_parts date days second = record {
  year = date.year;
  mon = date.month;
  day = date.day;
  hour = second / 3600;
  min = second / 60 % 60;
  sec = second % 60;
  wday = weekday (days - 719_162);
}

-- `Sun, 06 Nov 1994 08:49:37 GMT` (RFC 9110, section 5.6.7: the form of RFC 822 as RFC 1123 updates it);
-- moments before 1970 or past 9999 have no text
abbrev pub rfc822_text : ℤ → List ℕ
rfc822_text t = if has_rfc822 t then imf_fixdate (http_parts (civil_date (day_of t)) (day_of t) (second_of t)) else []
