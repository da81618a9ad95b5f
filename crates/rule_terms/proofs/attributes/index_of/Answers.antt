use Rattle.std.proofs.Common.{◌≡◌, ◌<◌, ◌≤◌, ◌^◌, ◌-◌, ◌∙◌, sym, true, length, arith}
use Rattle.std.specs.Char.{is_ascii_digit}
use Rattle.std.specs.List.{list_all}
use Rattle.std.specs.Str.{chars}
use Rattle.std.specs.Str.Parse.{digits_value}
use Rattle.std.proofs.Math.Nat.{min-eq_left, min-eq_right}
use Rattle.std.proofs.lemmas.Str.Parse.{parse_digits}
use Rattle.rule_terms.specs.Characters.{is_made_of}
use Rattle.rule_terms.proofs.DigitTexts.{numerals, made_bytes, index_some, not_empty, not_below}
use Rattle.rule_terms.proofs.attributes.index_of.Goals as goal

pub returns-in-Ok : goal.returns-in-Ok
returns-in-Ok c =
    let made : is_made_of is_ascii_digit (chars c.args.digits.now) ≡ true = sym c.are_digits.ensures ∙ c.if-not-are_digits.false in
    let bytes : (list_all is_ascii_digit c.args.digits.now ≡ true) × (chars c.args.digits.now ≡ c.args.digits.now) = made_bytes c.args.digits.now c.utf8.digits made in
    let read : ((0 < length c.args.digits.now) × (digits_value 10 c.args.digits.now < 2 ^ 64)) × (c.in-Ok.index ≡ digits_value 10 c.args.digits.now) =
    rw c.in-Ok.is at (parse_digits numerals 64 c.args.digits.now c.parse.result c.parse.ensures.value.0 bytes.0) in
    let low : digits_value 10 c.args.digits.now ≤ 2 ^ 64 - 1 = omega arith in
    index_some c.args.digits.now c.in-Ok.index bytes.1 made (read.1 ∙ sym (min-eq_left low))

pub returns-in-Err : goal.returns-in-Err
returns-in-Err c =
    let made : is_made_of is_ascii_digit (chars c.args.digits.now) ≡ true = sym c.are_digits.ensures ∙ c.if-not-are_digits.false in
    let bytes : (list_all is_ascii_digit c.args.digits.now ≡ true) × (chars c.args.digits.now ≡ c.args.digits.now) = made_bytes c.args.digits.now c.utf8.digits made in
    let unread : (0 < length c.args.digits.now) × (digits_value 10 c.args.digits.now < 2 ^ 64) → ⊥ =
    rw c.in-Err.is at (parse_digits numerals 64 c.args.digits.now c.parse.result c.parse.ensures.value.0 bytes.0) in
    let some : 0 < length c.args.digits.now = not_empty c.args.digits.now bytes.1 made in
    let high : 2 ^ 64 - 1 ≤ digits_value 10 c.args.digits.now = not_below (digits_value 10 c.args.digits.now) (λ below. unread (some, below)) in
    index_some c.args.digits.now (2 ^ 64 - 1) bytes.1 made (sym (min-eq_right high))
