use Rattle.std.proofs.Common.{arith}
use Rattle.jmes_eval.specs.Inside.{entry_of}
use Rattle.jmes_eval.specs.Meaning.{key_behind}
use Rattle.jmes_eval.proofs.FirstInOrder.{first_more_seen}
use Rattle.jmes_eval.proofs.sorting.greatest_entry.Goals as goal

pub loop-i-preserved : goal.loop-i-preserved
loop-i-preserved c = first_more_seen entry_of key_behind c.args.entries.now c.loop-i.i c.index-entries-i.result _ _ (omega arith) (omega arith) c.index-entries-i.is c.loop-i.invariant c.greater_entry.ensures
