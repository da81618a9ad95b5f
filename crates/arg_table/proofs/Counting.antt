-- The parts of the test of a count.
use Rattle.std.proofs.Common.{◌≡◌, ℕ, ◌<◌, ◌≤◌, ◌^◌, true, ltb, leb, Some, None, List, length, sym, ◌∙◌, ap, arith, rules}
use Rattle.std.specs.Char.{is_ascii_digit}
use Rattle.std.specs.List.{list_all}
use Rattle.std.specs.Str.Parse.{digits_value}
use Rattle.std.proofs.lemmas.Str.Parse.{IsNumeralModel, numerals_by_value}
use Rattle.std.proofs.lemmas.Bool.{and_parts, and_from, le-leb, leb-true, lt-ltb, ltb-true, false_from_ne_true, cond-true, cond-false}
use Rattle.arg_table.specs.Counts.{is_count, count_of}

-- the texts of digits are those that `parse` reads
pub numerals : IsNumeralModel (λ ds. list_all is_ascii_digit ds ≡ true) (digits_value 10)
numerals = numerals_by_value (λ ds. list_all is_ascii_digit ds ≡ true) (search rules)

pub count_of-some : (least most : ℕ) (digits : List ℕ) (count : ℕ) → list_all is_ascii_digit digits ≡ true → 0 < length digits → count ≡ digits_value 10 digits
    → least ≤ count → count ≤ most → Some count ≡ count_of least most digits
count_of-some least most digits count all some same low high =
    let above : least ≤ digits_value 10 digits = omega arith in
    let below : digits_value 10 digits ≤ most = omega arith in
    ap Some same
    ∙ sym (cond-true (is_count least most digits) (Some (digits_value 10 digits)) None
    (and_from _ _ (and_from _ _ (and_from _ _ (lt-ltb 0 (length digits) some) all) (le-leb least (digits_value 10 digits) above))
    (le-leb (digits_value 10 digits) most below)))

-- what `parse` doesn't read is no count
pub count_of-unread : (least most : ℕ) (digits : List ℕ) → most < 2 ^ 64 → ((0 < length digits) × (digits_value 10 digits < 2 ^ 64) → ⊥) → None ≡ count_of least most digits
count_of-unread least most digits small unread =
    sym (cond-false (is_count least most digits) (Some (digits_value 10 digits)) None (false_from_ne_true (is_count least most digits) (λ is.
    let last = and_parts _ (leb (digits_value 10 digits) most) is in
    let inner = and_parts _ (leb least (digits_value 10 digits)) last.0 in
    let first = and_parts (ltb 0 (length digits)) (list_all is_ascii_digit digits) inner.0 in
    let some : 0 < length digits = ltb-true 0 (length digits) first.0 in
    let high : digits_value 10 digits ≤ most = leb-true (digits_value 10 digits) most last.1 in
    let below : digits_value 10 digits < 2 ^ 64 = omega arith in
    unread (some, below))))
