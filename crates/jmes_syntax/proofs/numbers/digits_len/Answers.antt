use Rattle.std.proofs.Common.{sym, subst, take, arith}
use Rattle.std.specs.Char.{is_ascii_digit}
use Rattle.std.specs.Str.Parse.{AllDigits}
use Rattle.std.proofs.lemmas.List.Sums.{prefix_len_is}
use Rattle.jmes_syntax.proofs.DigitFronts.{digits_front}
use Rattle.jmes_syntax.proofs.numbers.digits_len.Goals as goal

pub returns-then-not-is_ascii_digit-clause-value : goal.returns-then-not-is_ascii_digit-clause-value
returns-then-not-is_ascii_digit-clause-value c =
    sym (prefix_len_is is_ascii_digit c.args.bytes.now c.loop-at.at 0 (omega arith) c.loop-at.invariant (λ within. sym c.if-not-is_ascii_digit.ensures.value))

pub returns-then-not-is_ascii_digit-clause-digits : goal.returns-then-not-is_ascii_digit-clause-digits
returns-then-not-is_ascii_digit-clause-digits c =
    subst (λ n. AllDigits 10 (take n c.args.bytes.now))
    (prefix_len_is is_ascii_digit c.args.bytes.now c.loop-at.at 0 (omega arith) c.loop-at.invariant (λ within. sym c.if-not-is_ascii_digit.ensures.value))
    (digits_front c.args.bytes.now)

pub returns-clause-value : goal.returns-clause-value
returns-clause-value c = sym (prefix_len_is is_ascii_digit c.args.bytes.now _ 0 (omega arith) (λ k h. c.loop-at.invariant k (omega arith)) (λ within. absurd (omega arith)))

pub returns-clause-digits : goal.returns-clause-digits
returns-clause-digits c =
    subst (λ n. AllDigits 10 (take n c.args.bytes.now))
    (prefix_len_is is_ascii_digit c.args.bytes.now _ 0 (omega arith) (λ k h. c.loop-at.invariant k (omega arith)) (λ within. absurd (omega arith)))
    (digits_front c.args.bytes.now)
