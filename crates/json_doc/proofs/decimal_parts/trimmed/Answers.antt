use Rattle.std.proofs.Common.{◌/◌, ◌+◌, ◌<◌, arith}
use Rattle.json_doc.proofs.LeastForms.{few_zeros, zero_more}
use Rattle.json_doc.proofs.decimal_parts.trimmed.Goals as goal

pub loop-front-preserved : goal.loop-front-preserved
loop-front-preserved c =
    let value = zero_more c.args.digits c.loop-front.front c.loop-front.zeros c.loop-front.invariant.0 c.loop-front-test.true in
    let some : 0 < c.loop-front.front / 10 = omega arith in
    (value, some, few_zeros c.args.digits (c.loop-front.front / 10) (c.loop-front.zeros + 1) value some (omega arith))
