use Rattle.json_doc.proofs.DecimalOrder.{value_cmp-less, value_cmp-greater}
use Rattle.json_doc.proofs.decimal.Decimal.cmp.Goals as goal

pub returns-in-true-false : goal.returns-in-true-false
returns-in-true-false c = value_cmp-less c.args.self.now c.args.other.now c.in-true-false.is-0 c.in-true-false.is-1

pub returns-in-false-true : goal.returns-in-false-true
returns-in-false-true c = value_cmp-greater c.args.self.now c.args.other.now c.in-false-true.is-0 c.in-false-true.is-1
