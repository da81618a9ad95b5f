use Rattle.std.proofs.Common.{◌≡◌}
use Rattle.std.specs.Vec.Iter.{into_iter_items}
use Rattle.texts.specs.Keys.{value_at}
use Rattle.jmes_eval.proofs.places.value_of.Given as goal

abbrev pub invariant-loop-field : goal.invariant-loop-field
invariant-loop-field l = value_at l.name (into_iter_items l.field-iterator) ≡ value_at l.fn.name l.fn.fields.items
