-- Times and the instants that they name. Dates and times of day have the forms of RFC 3339 (section 5.6), after
-- ISO 8601, of which the time of day and its offset may be left out. A rule relates the bytes from its start on,
-- their value, and the bytes behind it.
use Rattle.std.specs.Prelude.{◌≡◌, ℕ, ◌+◌, ◌*◌, ◌-◌, ◌/◌, ◌<◌, ◌≤◌, ◌==◌, Bool, false, IsTrue, List, [], ◌∷◌, ℤ, pos, neg_ℤ, ◌+ℤ◌, ◌-ℤ◌, ◌*ℤ◌, ◌≤ℤ◌}
use Rattle.std.specs.Char.{is_ascii_digit}
use Rattle.jiff_core.specs.Calendar.{IsCivilDate, days_from_civil}

abbrev pub begins_with_digit : List ℕ → Bool
begins_with_digit [] = false
begins_with_digit (c ∷ cs) = is_ascii_digit c

abbrev pub begins_with : ℕ → List ℕ → Bool
begins_with c [] = false
begins_with c (d ∷ ds) = d == c

-- two digits
pub data TwoDigits : List ℕ → ℕ → List ℕ → Type 0 where
  two_digits : {c d : ℕ} {ts rest : List ℕ} → ts ≡ c ∷ d ∷ rest → IsTrue (is_ascii_digit c) → IsTrue (is_ascii_digit d) → TwoDigits ts ((c - 48) * 10 + (d - 48)) rest

-- digits, as many as there are, behind a number that they go on with
pub data MoreDigits : ℕ → List ℕ → ℕ → List ℕ → Type 0 where
  no_digit : {n : ℕ} {ts : List ℕ} → begins_with_digit ts ≡ false → MoreDigits n ts n ts
  digit : {n m c : ℕ} {ts us rest : List ℕ} → ts ≡ c ∷ us → IsTrue (is_ascii_digit c) → MoreDigits (n * 10 + (c - 48)) us m rest → MoreDigits n ts m rest

-- 1*DIGIT
pub data Number : List ℕ → ℕ → List ℕ → Type 0 where
  number : {n : ℕ} {ts rest : List ℕ} → IsTrue (begins_with_digit ts) → MoreDigits 0 ts n rest → Number ts n rest

-- decimals, the first of which counts for so much and each further one for a tenth; none counts for less than 1
pub data Decimals : ℕ → List ℕ → ℕ → List ℕ → Type 0 where
  no_decimal : {place : ℕ} {ts : List ℕ} → begins_with_digit ts ≡ false → Decimals place ts 0 ts
  decimal : {place m c : ℕ} {ts us rest : List ℕ} → ts ≡ c ∷ us → IsTrue (is_ascii_digit c) → 1 ≤ place → Decimals (place / 10) us m rest → Decimals place ts ((c - 48) * place + m) rest

-- ["." 1*6DIGIT], in microseconds
pub data Fraction : List ℕ → ℕ → List ℕ → Type 0 where
  no_fraction : {ts : List ℕ} → begins_with 46 ts ≡ false → Fraction ts 0 ts
  fraction : {m : ℕ} {ts us rest : List ℕ} → ts ≡ 46 ∷ us → IsTrue (begins_with_digit us) → Decimals 100000 us m rest → Fraction ts m rest

-- YYYY-MM-DD, from the year 0001 on: the number of its day, from 1970-01-01 on, by the proleptic Gregorian calendar
pub data Date : List ℕ → ℤ → List ℕ → Type 0 where
  date : {century year month day : ℕ} {ts us vs ws xs ys rest : List ℕ} → TwoDigits ts century us → TwoDigits us year vs → vs ≡ 45 ∷ ws → TwoDigits ws month xs → xs ≡ 45 ∷ ys → TwoDigits ys day rest
      → 1 ≤ century * 100 + year → IsCivilDate (pos (century * 100 + year)) month day → Date ts (days_from_civil (pos (century * 100 + year)) month day) rest

-- HH:MM, in minutes
pub data Minutes : List ℕ → ℕ → List ℕ → Type 0 where
  minutes : {hour minute : ℕ} {ts us vs rest : List ℕ} → TwoDigits ts hour us → us ≡ 58 ∷ vs → TwoDigits vs minute rest → hour < 24 → minute < 60 → Minutes ts (hour * 60 + minute) rest

-- HH:MM:SS with a fraction, in microseconds since midnight
pub data Clock : List ℕ → ℕ → List ℕ → Type 0 where
  clock : {n second micros : ℕ} {ts us vs ws rest : List ℕ} → Minutes ts n us → us ≡ 58 ∷ vs → TwoDigits vs second ws → second < 60 → Fraction ws micros rest → Clock ts ((n * 60 + second) * 1000000 + micros) rest

-- nothing or `Z` for UTC, `+HH:MM` or `-HH:MM`: the minutes that the clock is ahead
pub data Offset : List ℕ → ℤ → Type 0 where
  no_offset : {ts : List ℕ} → ts ≡ [] → Offset ts (pos 0)
  utc : {ts : List ℕ} → ts ≡ 90 ∷ [] → Offset ts (pos 0)
  ahead : {n : ℕ} {ts us : List ℕ} → ts ≡ 43 ∷ us → Minutes us n [] → Offset ts (pos n)
  behind : {n : ℕ} {ts us : List ℕ} → ts ≡ 45 ∷ us → Minutes us n [] → Offset ts (neg_ℤ (pos n))

-- the microseconds of a day, of a minute and of a second
abbrev pub day_micros : ℤ
day_micros = pos 86400000000

abbrev pub minute_micros : ℤ
minute_micros = pos 60000000

-- The forms of a time, and its microseconds from 1970 on.
pub data Form : List ℕ → ℤ → Type 0 where
  -- seconds from 1970 on
  seconds : {n micros : ℕ} {ts us : List ℕ} → Number ts n us → Fraction us micros [] → Form ts (pos (n * 1000000 + micros))
  -- seconds before it
  seconds_before : {n micros : ℕ} {ts us vs : List ℕ} → ts ≡ 45 ∷ us → Number us n vs → Fraction vs micros [] → Form ts (neg_ℤ (pos (n * 1000000 + micros)))
  -- the begin of a day
  day : {day : ℤ} {ts : List ℕ} → Date ts day [] → Form ts (day *ℤ day_micros)
  -- date "T" time of day, with an offset
  day_and_time : {day offset : ℤ} {micros : ℕ} {ts us vs ws : List ℕ} → Date ts day us → us ≡ 84 ∷ vs → Clock vs micros ws → Offset ws offset
      → Form ts ((day *ℤ day_micros +ℤ pos micros) -ℤ (offset *ℤ minute_micros))

-- in the years 0001 to 9999
pub record IsInYears (instant : ℤ) : Type 0 where
  pub from_1 : neg_ℤ (pos 62135596800000000) ≤ℤ instant
  pub to_9999 : instant ≤ℤ pos 253402300799999999

-- the bytes of a time name this instant, in microseconds from 1970 on
abbrev pub IsTime : List ℕ → ℤ → Type 0
IsTime bytes instant = Form bytes instant × IsInYears instant
