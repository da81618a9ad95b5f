use Rattle.std.proofs.Common.{◌≡◌}
use Rattle.std.specs.Vec.Iter.{into_iter_items}
use Rattle.jmes_eval.specs.Many.{first_value}
use Rattle.jmes_eval.specs.Inside.{seen_values}
use Rattle.jmes_eval.proofs.arguments.not_null.Given as goal

abbrev pub invariant-loop-value : goal.invariant-loop-value
invariant-loop-value l = first_value (seen_values (into_iter_items l.value-iterator)) ≡ first_value (seen_values l.fn.values.items)
