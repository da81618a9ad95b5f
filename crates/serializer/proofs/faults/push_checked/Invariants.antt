use Rattle.std.proofs.Common.{◌≡◌}
use Rattle.std.specs.Vec.Iter.{into_iter_items}
use Rattle.serializer.specs.Faults.{checked}
use Rattle.serializer.proofs.faults.push_checked.Given as goal

-- the headers so far and those that are left tell
abbrev pub invariant-loop-name : goal.invariant-loop-name
invariant-loop-name l = record {
  next : (goal.iterator-loop-name).can_next l.name-iterator;
  finite : (goal.iterator-loop-name).is_finite l.name-iterator;
  due : checked l.out (into_iter_items l.name-iterator) l.member ≡ checked l.fn.out l.fn.headers l.member;
}
