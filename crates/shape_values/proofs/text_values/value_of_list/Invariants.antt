use Rattle.std.specs.Vec.Iter.{into_iter_items}
use Rattle.shape_values.specs.Instants.{Instants, TellsTimes}
use Rattle.shape_values.proofs.Due.{Goes}
use Rattle.shape_values.proofs.text_values.value_of_list.Given as goal

abbrev pub invariant-loop-text : goal.invariant-loop-text
invariant-loop-text l = record {
  next : (goal.iterator-loop-text).can_next l.text-iterator;
  finite : (goal.iterator-loop-text).is_finite l.text-iterator;
  goes : (instants : Instants) → TellsTimes instants → Goes instants l.model.shapes l.shape.item l.made (into_iter_items l.text-iterator) l.fn.texts.items;
}
