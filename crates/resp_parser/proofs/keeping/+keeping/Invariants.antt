use Rattle.std.proofs.Common.{◌≡◌, ℕ, ◌+◌, ◌*◌, ◌<◌, ◌≤◌, List, [], ◌∷◌, ◌++◌, length, map, take, drop, Option, None, Some, get_or}
use denote.Param.Weighed.{most}
use Rattle.std.specs.Vec.Iter.{into_iter_items}
use Rattle.json_doc.specs.declared.doc.Doc.{Doc, size-Doc}
use Rattle.resp_parser.specs.FirstFault.{entries_fault, items_fault, judge_of, members_fault}
use Rattle.resp_parser.specs.Kept.{kept_of, known_members, with_values}
use Rattle.resp_parser.specs.Inside.{values_of}
use Rattle.resp_parser.proofs.Names.{AreNames}
use Rattle.resp_parser.proofs.keeping.+keeping.Given as goal

abbrev pub decreases-keep : goal.decreases-keep
decreases-keep l = 3 * goal.size-keep l

abbrev pub decreases-keep_items : goal.decreases-keep_items
decreases-keep_items l = 3 * goal.size-keep_items l + 2

abbrev pub decreases-each_kept : goal.decreases-each_kept
decreases-each_kept l = 3 * most size-Doc l.values.items + 1

abbrev pub decreases-keep_fields : goal.decreases-keep_fields
decreases-keep_fields l = 3 * most (λ p. size-Doc p.value) l.fields + 2

abbrev pub decreases-keep_entries : goal.decreases-keep_entries
decreases-keep_entries l = 3 * most (λ p. size-Doc p.value) l.fields + 1

abbrev pub decreases-keep_members : goal.decreases-keep_members
decreases-keep_members l = 3 * most (λ p. size-Doc p.value) l.fields + 1

-- those before the place are kept and have no fault, those from it on are as they were
abbrev pub invariant-each_kept-loop-at : goal.invariant-each_kept-loop-at
invariant-each_kept-loop-at l = record {
  count : length l.values.items ≡ length l.initial.values.items;
  made : l.values.items ≡ map (λ value. kept_of l.model.shapes value (Some l.item)) (take l.at l.fn.values.items) ++ drop l.at l.fn.values.items;
  due : items_fault (Some l.item) l.at (map (judge_of l.model.shapes) (drop l.at l.fn.values.items))
      ≡ items_fault (Some l.item) 0 (map (judge_of l.model.shapes) l.fn.values.items);
}

abbrev pub invariant-keep_entries-loop-key : goal.invariant-keep_entries-loop-key
invariant-keep_entries-loop-key l = record {
  next : (goal.iterator-keep_entries-loop-key).can_next l.key-iterator;
  finite : (goal.iterator-keep_entries-loop-key).is_finite l.key-iterator;
  whole : l.yielded ++ into_iter_items l.key-iterator ≡ l.fn.fields;
  made : l.made ≡ with_values (λ value. kept_of l.model.shapes value (Some l.item)) l.yielded;
  due : entries_fault (Some l.item) (with_values (judge_of l.model.shapes) (into_iter_items l.key-iterator))
      ≡ entries_fault (Some l.item) (with_values (judge_of l.model.shapes) l.fn.fields);
}

-- the values from the place on are as they were, and the members before it were made of the others
abbrev pub invariant-keep_members-loop-at : goal.invariant-keep_members-loop-at
invariant-keep_members-loop-at l = record {
  count : length l.values.items ≡ length l.members;
  left : drop l.at l.values.items ≡ drop l.at (values_of l.members l.fn.fields);
  names : AreNames (take l.at l.members) l.made;
  made : l.made ++ known_members (drop l.at l.members) (with_values (kept_of l.model.shapes) l.fn.fields)
      ≡ known_members l.members (with_values (kept_of l.model.shapes) l.fn.fields);
  due : members_fault (with_values (judge_of l.model.shapes) l.fn.fields) (drop l.at l.members)
      ≡ members_fault (with_values (judge_of l.model.shapes) l.fn.fields) l.members;
}
