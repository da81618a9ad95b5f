use Rattle.std.proofs.Common.{arith}
use Rattle.jmes_eval.specs.Orders.{is_behind}
use Rattle.jmes_eval.proofs.FirstInOrder.{first_more}
use Rattle.jmes_eval.proofs.sorting.greatest.Goals as goal

pub loop-i-preserved : goal.loop-i-preserved
loop-i-preserved c = first_more is_behind c.args.items.now c.loop-i.i c.index-items-i.result _ _ (omega arith) (omega arith) c.index-items-i.is c.loop-i.invariant c.greater.ensures
