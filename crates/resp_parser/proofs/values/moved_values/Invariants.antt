use Rattle.std.proofs.Common.{◌≡◌, ◌++◌}
use Rattle.std.specs.Vec.Iter.{into_iter_items}
use Rattle.resp_parser.specs.Inside.{values_of}
use Rattle.resp_parser.proofs.values.moved_values.Given as goal

abbrev pub invariant-loop-key : goal.invariant-loop-key
invariant-loop-key l = record {
  next : (goal.iterator-loop-key).can_next l.key-iterator;
  finite : (goal.iterator-loop-key).is_finite l.key-iterator;
  whole : l.yielded ++ into_iter_items l.key-iterator ≡ l.fn.fields.items;
  values : l.values.items ≡ values_of l.members l.yielded;
}
