-- The two calendars agree: that of HTTP counts from 1970.
use Rattle.std.proofs.Common.{◌≡◌, ℕ, zero, suc, ◌+◌, ◌-◌, ◌≤◌, refl, ap, add-suc, ◌∙◌, sym, pos, ◌-ℤ◌, arith}
use Rattle.httpdate.specs.Calendar as http
use Rattle.jiff_core.specs.Calendar as jiff
use Rattle.jiff_core.proofs.MarchLemmas.{days_of_years-march_days}
use Rattle.jiff_core.proofs.SignedLemmas.{signed_arith}

months : (y m : ℕ) → http.days_of_months y m ≡ jiff.days_of_months (pos y) m
unfolding http.days_of_months jiff.days_of_months
months y zero = refl
months y (suc m) = ap (λ n. n + http.days_in_month y (suc m)) (months y m)

year_before : (n : ℕ) → pos (11_970 + n) -ℤ pos 10_000 ≡ pos (1970 + n)
year_before n = omega (arith, signed_arith)

jiff_next : (k : ℕ) → jiff.days_of_years (suc k) ≡ jiff.days_of_years k + jiff.days_in_year (pos k -ℤ pos 10_000)
unfolding jiff.days_of_years
jiff_next k = refl

http_next : (n : ℕ) → http.days_of_years (suc n) ≡ http.days_of_years n + http.days_in_year (1970 + n)
unfolding http.days_of_years
http_next n = refl

http_none : http.days_of_years 0 ≡ 0
unfolding http.days_of_years
http_none = refl

same_year : (n : ℕ) → jiff.days_in_year (pos (11_970 + n) -ℤ pos 10_000) ≡ http.days_in_year (1970 + n)
same_year n = ap jiff.days_in_year (year_before n)

years_none : jiff.days_of_years (11_970 + 0) ≡ jiff.days_of_years 11_970 + http.days_of_years 0
unfolding jiff.days_of_years
years_none = ap (λ m. jiff.days_of_years 11_970 + m) (sym http_none)

years : (n : ℕ) → jiff.days_of_years (11_970 + n) ≡ jiff.days_of_years 11_970 + http.days_of_years n
years zero = years_none
years (suc n) =
    ap jiff.days_of_years (add-suc 11_970 n) ∙ jiff_next (11_970 + n)
    ∙ omega (arith, years n, same_year n, http_next n)

until_1970 : jiff.days_of_years 11_970 ≡ 4_371_953
until_1970 = omega (arith, days_of_years-march_days 11_970)

count_is : (y m d : ℕ) → jiff.day_count (pos y) m d ≡ jiff.days_of_years (y + 10_000) + (jiff.days_of_months (pos y) (m - 1) + d - 1)
unfolding jiff.day_count
count_is y m d = refl

-- the day of a date from 1970 on, by both
pub same_day : (y m d : ℕ) → 1970 ≤ y → 1 ≤ d → jiff.day_count (pos y) m d ≡ http.days_from_civil y m d + 4_371_953
same_day y m d late first =
    let from : y + 10_000 ≡ 11_970 + (y - 1970) = omega arith in
    omega (arith, count_is y m d, ap jiff.days_of_years from, years (y - 1970), until_1970, months y (m - 1))
