use Rattle.std.proofs.Common.{◌≡◌, ◌++◌}
use Rattle.std.specs.Vec.Iter.{into_iter_items}
use Rattle.jmes_eval.specs.Lists.{values_in}
use Rattle.jmes_eval.specs.Inside.{seen_all}
use Rattle.jmes_eval.proofs.projected.values_made.Given as goal

abbrev pub invariant-loop-field : goal.invariant-loop-field
invariant-loop-field l = seen_all l.made.items ++ values_in (into_iter_items l.field-iterator) ≡ values_in l.fn.fields.items
