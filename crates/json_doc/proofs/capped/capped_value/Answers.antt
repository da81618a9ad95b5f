use Rattle.std.proofs.Common.{sym, subst, arith}
use Rattle.std.proofs.lemmas.Str.Parse.{digit_at}
use Rattle.json_doc.specs.Trimmed.{IsCapped}
use Rattle.json_doc.proofs.DigitLists.{after-more, capped_more}
use Rattle.json_doc.proofs.capped.capped_value.Goals as goal

pub overflow_sub-b : goal.overflow_sub-b
overflow_sub-b c = (digit_at c.args.digits.now c.loop-b.b-index c.requires (omega arith)).0

pub with_digit-value-requires-clause-digit : goal.with_digit-value-requires-clause-digit
with_digit-value-requires-clause-digit c =
    let range = digit_at c.args.digits.now c.loop-b.b-index c.requires (omega arith) in
    omega arith

pub loop-b-preserved : goal.loop-b-preserved
loop-b-preserved c =
    let more = after-more 0 c.args.digits.now c.loop-b.b-index c.requires c.loop-b-test.true in
    let value = capped_more _ _ _ _ c.loop-b.invariant.0 c.with_digit-value.ensures.near c.with_digit-value.ensures.far in
    (subst (IsCapped c.with_digit-value.result) (sym more) value, c.with_digit-value.ensures.small)
