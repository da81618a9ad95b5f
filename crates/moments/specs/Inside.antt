-- Words of private contracts alone: the reading of a time from its start on, which no clause of a public call cites.
use Rattle.std.specs.Prelude.{ℕ, ◌+◌, ◌*◌, ◌-◌, ◌/◌, ◌==◌, nat_lt, nat_le, Bool, true, false, ◌&&◌, if◌then◌else◌, List, [], ◌∷◌, Option, None, Some, ℤ, pos, neg_ℤ, ◌+ℤ◌, ◌-ℤ◌, ◌*ℤ◌}
use Rattle.std.specs.Char.{is_ascii_digit}
use Rattle.jiff_core.specs.Calendar.{days_in_month, days_from_civil}
use Rattle.moments.specs.Times.{begins_with_digit, day_micros, minute_micros}

-- goes on with what was found
infixl 10 ◌>>◌
abbrev pub ◌>>◌ : {A B : Type 0} → Option A → (A → Option B) → Option B
None >> f = None
(Some x) >> f = f x

-- what is found where a test holds
abbrev pub only_if : {A : Type 0} → Bool → A → Option A
only_if true x = Some x
only_if false x = None

abbrev pub digit : List ℕ → Option (ℕ × List ℕ)
digit [] = None
digit (c ∷ rest) = only_if (is_ascii_digit c) (c - 48, rest)

abbrev pub two_digits : List ℕ → Option (ℕ × List ℕ)
two_digits bytes = digit bytes >> (λ x. digit x.1 >> (λ y. Some (x.0 * 10 + y.0, y.1)))

abbrev pub past : ℕ → List ℕ → Option (List ℕ)
past c [] = None
past c (d ∷ ds) = only_if (d == c) ds

abbrev pub more_digits : ℕ → List ℕ → ℕ × List ℕ
more_digits n [] = (n, [])
more_digits n (c ∷ cs) = if is_ascii_digit c then more_digits (n * 10 + (c - 48)) cs else (n, c ∷ cs)

abbrev pub number : List ℕ → Option (ℕ × List ℕ)
number bytes = if begins_with_digit bytes then Some (more_digits 0 bytes) else None

abbrev pub decimals : ℕ → ℕ → List ℕ → Option (ℕ × List ℕ)
decimals place sum [] = Some (sum, [])
decimals place sum (c ∷ cs) =
    if is_ascii_digit c then (if nat_lt 0 place then decimals (place / 10) (sum + (c - 48) * place) cs else None) else Some (sum, c ∷ cs)

abbrev pub fraction_of : List ℕ → Option (ℕ × List ℕ)
fraction_of bytes = if begins_with_digit bytes then decimals 100000 0 bytes else None

abbrev pub fraction_at : List ℕ → Option (List ℕ) → Option (ℕ × List ℕ)
fraction_at bytes None = Some (0, bytes)
fraction_at bytes (Some behind) = fraction_of behind

abbrev pub fraction : List ℕ → Option (ℕ × List ℕ)
fraction bytes = fraction_at bytes (past 46 bytes)

-- the calendar has this day, from the year 0001 on
abbrev pub has_day : ℕ → ℕ → ℕ → Bool
has_day year month day = nat_le 1 year && nat_le 1 month && nat_le month 12 && nat_le 1 day && nat_le day (days_in_month (pos year) month)

abbrev pub day_number : ℕ → ℕ → ℕ → Option ℤ
day_number year month day = only_if (has_day year month day) (days_from_civil (pos year) month day)

abbrev pub date : List ℕ → Option (ℤ × List ℕ)
date bytes =
    two_digits bytes >> (λ century. two_digits century.1 >> (λ year. past 45 year.1 >> (λ behind_year. two_digits behind_year >> (λ month. past 45 month.1 >> (λ behind_month. two_digits behind_month
    >> (λ day. day_number (century.0 * 100 + year.0) month.0 day.0 >> (λ number. Some (number, day.1))))))))

abbrev pub minutes : List ℕ → Option (ℕ × List ℕ)
minutes bytes =
    two_digits bytes >> (λ hour. past 58 hour.1 >> (λ behind. two_digits behind >> (λ minute. only_if (nat_lt hour.0 24 && nat_lt minute.0 60) (hour.0 * 60 + minute.0, minute.1))))

abbrev pub clock : List ℕ → Option (ℕ × List ℕ)
clock bytes =
    minutes bytes >> (λ n. past 58 n.1 >> (λ behind. two_digits behind >> (λ second. if nat_lt second.0 60
    then (fraction second.1 >> (λ micros. Some ((n.0 * 60 + second.0) * 1000000 + micros.0, micros.1)))
    else None)))

abbrev pub is_empty : List ℕ → Bool
is_empty [] = true
is_empty (c ∷ cs) = false

-- minutes up to the end of the bytes
abbrev pub last_minutes : List ℕ → Option ℕ
last_minutes bytes = minutes bytes >> (λ n. only_if (is_empty n.1) n.0)

abbrev pub offset_mark : ℕ → List ℕ → Option ℤ
offset_mark c cs =
    if c == 90 then only_if (is_empty cs) (pos 0) else
    (if c == 43 then last_minutes cs >> (λ n. Some (pos n)) else
    (if c == 45 then last_minutes cs >> (λ n. Some (neg_ℤ (pos n))) else None))

abbrev pub offset : List ℕ → Option ℤ
offset [] = Some (pos 0)
offset (c ∷ cs) = offset_mark c cs

-- a time of day with its offset, in microseconds
abbrev pub time_of_day : List ℕ → Option ℤ
time_of_day bytes = clock bytes >> (λ micros. offset micros.1 >> (λ ahead. Some (pos micros.0 -ℤ (ahead *ℤ minute_micros))))

-- what stands behind a date
abbrev pub behind_date : List ℕ → Option ℤ
behind_date bytes = if is_empty bytes then Some (pos 0) else (past 84 bytes >> time_of_day)

abbrev pub civil : List ℕ → Option ℤ
civil bytes = date bytes >> (λ day. behind_date day.1 >> (λ micros. Some ((day.0 *ℤ day_micros) +ℤ micros)))

-- seconds, in microseconds
abbrev pub seconds : List ℕ → Option ℕ
seconds bytes = number bytes >> (λ n. fraction n.1 >> (λ micros. only_if (is_empty micros.1) (n.0 * 1000000 + micros.0)))

abbrev pub signed_seconds : List ℕ → Option ℤ
signed_seconds [] = None
signed_seconds (c ∷ cs) = if c == 45 then seconds cs >> (λ n. Some (neg_ℤ (pos n))) else (seconds (c ∷ cs) >> (λ n. Some (pos n)))
