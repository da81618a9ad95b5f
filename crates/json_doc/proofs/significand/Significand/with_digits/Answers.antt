use Rattle.std.proofs.Common.{◌*◌, ◌+◌, ◌-◌, get_or, ap, ◌∙◌, sym, arith}
use Rattle.std.proofs.lemmas.Str.Parse.{digit_at}
use Rattle.json_doc.proofs.DigitLists.{after-more, long_at}
use Rattle.json_doc.proofs.significand.Significand.with_digits.Goals as goal

pub overflow_sub-b : goal.overflow_sub-b
overflow_sub-b c = (digit_at c.args.digits.now c.loop-b.b-index c.requires.digits (omega arith)).0

pub with_digit-requires-clause-digit : goal.with_digit-requires-clause-digit
with_digit-requires-clause-digit c =
    let range = digit_at c.args.digits.now c.loop-b.b-index c.requires.digits (omega arith) in
    omega arith

pub returns-in_err-whole-clause-none : goal.returns-in_err-whole-clause-none
returns-in_err-whole-clause-none c =
    rw c.from_residual.ensures (long_at _ c.args.digits.now c.loop-b.b-index _ c.requires.digits c.loop-b-test.true c.loop-b.invariant.0 c.in_err-whole.ensures.none)

pub loop-b-preserved : goal.loop-b-preserved
loop-b-preserved c =
    let more = after-more _ c.args.digits.now c.loop-b.b-index c.requires.digits c.loop-b-test.true in
    let value = c.in_ok-whole.ensures.value ∙ ap (λ v. v * 10 + (get_or c.args.digits.now c.loop-b.b-index 0 - 48)) c.loop-b.invariant.0 ∙ sym more in
    (value, omega (arith, c.in_ok-whole.ensures.zeros))
