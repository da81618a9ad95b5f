use Rattle.std.proofs.Common.{arith}
use Rattle.json_doc.proofs.DecimalOrder.{whole_and_part-is, part-fits}
use Rattle.json_doc.proofs.decimal_value.whole_and_part.Goals as goal

pub overflow_mul-part : goal.overflow_mul-part
overflow_mul-part c =
    let below = part-fits c.args.n.now.magnitude c.args.n.now.scale c.args.n.now.short in
    rw (c.ten_to-unit.ensures.value, c.ten_to.ensures.value) (omega (arith, below))

pub returns-clause-value : goal.returns-clause-value
returns-clause-value c =
    rw (c.ten_to-unit.ensures.value, c.ten_to.ensures.value) (whole_and_part-is c.args.n.now.magnitude c.args.n.now.scale c.args.n.now.short)

pub returns-clause-below_one : goal.returns-clause-below_one
returns-clause-below_one c =
    rw (c.ten_to-unit.ensures.value, c.ten_to.ensures.value) (part-fits c.args.n.now.magnitude c.args.n.now.scale c.args.n.now.short)
