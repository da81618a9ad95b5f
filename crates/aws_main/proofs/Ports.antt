-- The parts of the test of a port.
use Rattle.std.proofs.Common.{◌≡◌, ℕ, ◌<◌, ◌≤◌, ◌^◌, true, false, eqb, ltb, leb, Some, None, List, [], ◌∷◌, length, get_or, sym, ◌∙◌, ap, arith}
use Rattle.std.specs.Prelude.{◌≢◌, not}
use Rattle.std.specs.Char.{is_ascii_digit}
use Rattle.std.specs.Int.{is_in_range}
use Rattle.std.specs.List.{list_all}
use Rattle.std.specs.Str.Parse.{digits_value}
use Rattle.std.proofs.lemmas.Str.Parse.{IsNumeralModel, numerals_by_value}
use Rattle.std.proofs.lemmas.Bool.{and_parts, and_from, and_left, and_right, le-leb, leb-true, lt-ltb, ltb-true, ne_eqb, not_from_false, false≢true, false_from_ne_true, cond-true, cond-false}
use Rattle.aws_main.specs.Words.{is_plain_number, is_allowed_port, is_port, port_of}
use Rattle.std.proofs.Common.{rules}

-- the texts of digits are those that `parse` reads
pub numerals : IsNumeralModel (λ ds. list_all is_ascii_digit ds ≡ true) (digits_value 10)
numerals = numerals_by_value (λ ds. list_all is_ascii_digit ds ≡ true) (search rules)

pub port_of-none : (digits : List ℕ) → is_port digits ≡ false → None ≡ port_of digits
port_of-none digits refused = sym (cond-false (is_port digits) (Some (digits_value 10 digits)) None refused)

pub port_of-some : (digits : List ℕ) (port : ℕ) → is_port digits ≡ true → port ≡ digits_value 10 digits → Some port ≡ port_of digits
port_of-some digits port allowed same = ap Some same ∙ sym (cond-true (is_port digits) (Some (digits_value 10 digits)) None allowed)

pub is_port-zero : (digits : List ℕ) → get_or digits 0 0 ≡ 48 → is_port digits ≡ false
is_port-zero digits zero_first = and_left _ _ (and_left _ _ (ap (is_in_range 49 57) zero_first))

pub is_port-other : (digits : List ℕ) → list_all is_ascii_digit digits ≡ false → is_port digits ≡ false
is_port-other digits other = and_left _ _ (and_right _ _ other)

-- the first of some digits is 1 to 9 where it isn't 0
first_digit : (digits : List ℕ) → 0 < length digits → get_or digits 0 0 ≢ 48 → list_all is_ascii_digit digits ≡ true → is_in_range 49 57 (get_or digits 0 0) ≡ true
first_digit [] some other all = absurd (omega arith)
first_digit (d ∷ ds) some other all =
    let digit : is_in_range 48 57 d ≡ true = (and_parts (is_in_range 48 57 d) (list_all is_ascii_digit ds) all).0 in
    let ends : (leb 48 d ≡ true) × (leb d 57 ≡ true) = and_parts (leb 48 d) (leb d 57) digit in
    let low : 48 ≤ d = leb-true 48 d ends.0 in
    let above : 49 ≤ d = omega arith in
    and_from (leb 49 d) (leb d 57) (le-leb 49 d above) ends.1

some_digit : (digits : List ℕ) → is_in_range 49 57 (get_or digits 0 0) ≡ true → 0 < length digits
some_digit [] first = absurd (false≢true first)
some_digit (d ∷ ds) first = omega arith

pub is_port-from : (digits : List ℕ) → get_or digits 0 0 ≢ 48 → list_all is_ascii_digit digits ≡ true → (0 < length digits) × (digits_value 10 digits < 2 ^ 16) → digits_value 10 digits ≢ 80 → is_port digits ≡ true
is_port-from digits other all read not_80 =
    and_from _ _ (and_from _ _ (first_digit digits read.0 other all) all)
    (and_from _ _ (lt-ltb _ _ read.1) (not_from_false _ (ne_eqb _ _ not_80)))

pub is_port-unread : (digits : List ℕ) → ((0 < length digits) × (digits_value 10 digits < 2 ^ 16) → ⊥) → is_port digits ≡ false
is_port-unread digits unread = false_from_ne_true (is_port digits) (λ allowed.
    let both : (is_plain_number digits ≡ true) × (is_allowed_port (digits_value 10 digits) ≡ true) = and_parts _ _ allowed in
    let plain : (is_in_range 49 57 (get_or digits 0 0) ≡ true) × (list_all is_ascii_digit digits ≡ true) = and_parts _ _ both.0 in
    let small : (ltb (digits_value 10 digits) 65536 ≡ true) × (not (eqb (digits_value 10 digits) 80) ≡ true) = and_parts _ _ both.1 in
    unread (some_digit digits plain.0, ltb-true _ _ small.0))
