-- The parts of the test of a number that has a most.
use Rattle.std.proofs.Common.{◌≡◌, ℕ, ◌<◌, ◌≤◌, ◌^◌, true, false, leb, Some, None, List, [], ◌∷◌, length, get_or, sym, ◌∙◌, ap, arith, rules}
use Rattle.std.specs.Prelude.{◌≢◌, ◌&&◌}
use Rattle.std.specs.Char.{is_ascii_digit}
use Rattle.std.specs.Int.{is_in_range}
use Rattle.std.specs.List.{list_all}
use Rattle.std.specs.Str.Parse.{digits_value}
use Rattle.std.proofs.lemmas.Str.Parse.{IsNumeralModel, numerals_by_value}
use Rattle.std.proofs.lemmas.Bool.{and_parts, and_from, le-leb, leb-true, false≢true, false_from_ne_true, cond-true, cond-false}
use Rattle.config_file.specs.Values.{is_plain_number, number_up_to}

-- the texts of digits are those that `parse` reads
pub numerals : IsNumeralModel (λ ds. list_all is_ascii_digit ds ≡ true) (digits_value 10)
numerals = numerals_by_value (λ ds. list_all is_ascii_digit ds ≡ true) (search rules)

none_where : (most : ℕ) (digits : List ℕ) → (is_plain_number digits && leb (digits_value 10 digits) most) ≡ false → None ≡ number_up_to most digits
none_where most digits refused =
    sym (cond-false (is_plain_number digits && leb (digits_value 10 digits) most) (Some (digits_value 10 digits)) None refused)

pub number-some : (most : ℕ) (digits : List ℕ) (number : ℕ) → is_plain_number digits ≡ true → number ≡ digits_value 10 digits
    → number ≤ most → Some number ≡ number_up_to most digits
number-some most digits number plain same within =
    let low : digits_value 10 digits ≤ most = omega (arith, same) in
    ap Some same ∙ sym (cond-true (is_plain_number digits && leb (digits_value 10 digits) most) (Some (digits_value 10 digits)) None
    (and_from _ _ plain (le-leb _ _ low)))

-- the first of some digits is 1 to 9 where it isn't 0
first_digit : (digits : List ℕ) → 0 < length digits → get_or digits 0 0 ≢ 48 → list_all is_ascii_digit digits ≡ true → is_in_range 49 57 (get_or digits 0 0) ≡ true
first_digit [] some other all = absurd (omega arith)
first_digit (d ∷ ds) some other all =
    let digit : is_in_range 48 57 d ≡ true = (and_parts (is_in_range 48 57 d) (list_all is_ascii_digit ds) all).0 in
    let ends : (leb 48 d ≡ true) × (leb d 57 ≡ true) = and_parts (leb 48 d) (leb d 57) digit in
    let low : 48 ≤ d = leb-true 48 d ends.0 in
    let above : 49 ≤ d = omega arith in
    and_from (leb 49 d) (leb d 57) (le-leb 49 d above) ends.1

some_digit : (digits : List ℕ) → is_in_range 49 57 (get_or digits 0 0) ≡ true → 0 < length digits
some_digit [] first = absurd (false≢true first)
some_digit (d ∷ ds) first = omega arith

pub plain-from : (digits : List ℕ) → get_or digits 0 0 ≢ 48 → list_all is_ascii_digit digits ≡ true → 0 < length digits → is_plain_number digits ≡ true
plain-from digits other all some = and_from _ _ (first_digit digits some other all) all

-- what `parse` doesn't read as a number of 16 bits is none up to a most of 16 bits
pub number-unread : (most : ℕ) (digits : List ℕ) → most < 2 ^ 16 → ((0 < length digits) × (digits_value 10 digits < 2 ^ 16) → ⊥)
    → None ≡ number_up_to most digits
number-unread most digits small unread = none_where most digits
    (false_from_ne_true (is_plain_number digits && leb (digits_value 10 digits) most) (λ allowed.
    let both : (is_plain_number digits ≡ true) × (leb (digits_value 10 digits) most ≡ true) = and_parts _ _ allowed in
    let plain : (is_in_range 49 57 (get_or digits 0 0) ≡ true) × (list_all is_ascii_digit digits ≡ true) = and_parts _ _ both.0 in
    let low : digits_value 10 digits ≤ most = leb-true _ _ both.1 in
    unread (some_digit digits plain.0, omega arith)))
