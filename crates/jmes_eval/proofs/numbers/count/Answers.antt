use Rattle.jmes_eval.specs.Numbers.{whole}
use Rattle.std.proofs.Common.{false}
use Rattle.jmes_eval.proofs.NumberAnswers.{as_number-is}
use Rattle.jmes_eval.proofs.numbers.count.Goals as goal

pub returns : goal.returns
returns c = as_number-is (whole false c.args.n) c.whole.result c.whole.ensures
