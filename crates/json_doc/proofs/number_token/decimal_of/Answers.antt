use Rattle.std.proofs.Common.{◌≡◌, ℕ, ◌+◌, ◌*◌, ◌^◌, ◌⊎◌, inl, inr, Bool, true, false, cond, length, ◌++◌, refl, sym, ap, ◌∙◌, arith}
use Rattle.std.specs.Str.Parse.{digits_value}
use Rattle.json_doc.specs.NumberParts.{exponent_of, number_of}
use Rattle.json_doc.specs.NumberToken.{raised, lowered, value_of}
use Rattle.json_doc.proofs.CappedValues.{Alike, value_to, value_from, capped_alike, some_value, none_value, long_none}
use Rattle.json_doc.proofs.DigitLists.{digits_are, long_int, long_frac}
use Rattle.json_doc.proofs.number_token.decimal_of.Goals as goal
use Rattle.json_doc.proofs.number_token.decimal_of.Goals.{After-powers-up}

nothing : (front ends : ℕ) → front ≡ 0 → front * 10 ^ ends ≡ 0
nothing front ends e = let none : 0 * 10 ^ ends ≡ 0 = omega arith in ap (λ v. v * 10 ^ ends) e ∙ none

pub returns-in_err-int-clause-none : goal.returns-in_err-int-clause-none
returns-in_err-int-clause-none c =
    let number = c.args.number.now in
    rw c.from_residual.ensures
    (long_none (value_of (number_of number)) (long_int _ number.int.now number.frac.now (nothing _ _ c.zero.ensures.zero) c.requires.frac c.in_err-int.ensures.none))

pub returns-in_err-digits-clause-none : goal.returns-in_err-digits-clause-none
returns-in_err-digits-clause-none c =
    let number = c.args.number.now in
    rw c.from_residual-in_err-digits.ensures
    (long_none (value_of (number_of number)) (long_frac _ _ number.int.now number.frac.now (nothing _ _ c.zero.ensures.zero) c.in_ok-int.ensures.value c.in_err-digits.ensures.none))

one_side : (b : Bool) (v : ℕ) → (cond b 0 v ≡ 0) ⊎ (cond b v 0 ≡ 0)
one_side true v = inl refl
one_side false v = inr refl

-- the digits, and the powers that are passed on
value_is : (c : After-powers-up) → digits_value 10 (c.args.number.now.int.now ++ c.args.number.now.frac.now) ≡ c.in_ok-digits.digits.front * 10 ^ c.in_ok-digits.digits.zeros
value_is c =
    sym (digits_are _ _ _ c.args.number.now.int.now c.args.number.now.frac.now (nothing _ _ c.zero.ensures.zero) c.in_ok-int.ensures.value c.in_ok-digits.ensures.value)

alike : (c : After-powers-up) → Alike (c.in_ok-digits.digits.zeros + c.powers-up.result.0 + 0) (length c.args.number.now.frac.now + c.powers-up.result.1) (raised (exponent_of c.args.number.now.exp) + c.in_ok-digits.digits.zeros) (length c.args.number.now.frac.now + lowered (exponent_of c.args.number.now.exp))
alike c =
    let e = exponent_of c.args.number.now.exp in
    capped_alike c.in_ok-digits.digits.zeros (length c.args.number.now.frac.now) (raised e) (lowered e) c.powers-up.result.0 c.powers-up.result.1
    c.powers-up.ensures.up c.powers-up.ensures.down (one_side e.is_negative (digits_value 10 e.digits))
    (omega (arith, c.in_ok-int.ensures.zeros, c.in_ok-digits.ensures.zeros)) (omega arith)

pub returns-clause-some : goal.returns-clause-some
returns-clause-some c =
    let p = (goal.at.returns-clause-some c).After-powers-up in
    some_value _ _ (value_of (number_of c.args.number.now))
    (λ d h. value_to d _ _ _ _ _ _ _ _ (value_is p) c.in_ok-digits.digits.trimmed (alike p) h)
    c.decimal_of_parts.ensures.some

pub returns-clause-none : goal.returns-clause-none
returns-clause-none c =
    let p = (goal.at.returns-clause-none c).After-powers-up in
    none_value _ _ (value_of (number_of c.args.number.now))
    (λ d h. value_from d _ _ _ _ _ _ _ _ (value_is p) c.in_ok-digits.digits.trimmed (alike p) h)
    c.decimal_of_parts.ensures.none
