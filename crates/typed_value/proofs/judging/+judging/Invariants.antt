use Rattle.std.proofs.Common.{◌≡◌, ◌+◌, ◌*◌, ◌≤◌, ◌++◌, map, length, take, drop}
use Rattle.std.specs.List.{flat_map}
use Rattle.typed_value.specs.Faults.{item_faults, items_faults, member_faults, faults_where}
use Rattle.typed_value.specs.Paths.{below}
use Rattle.typed_value.specs.Places.{member_named}
use Rattle.typed_value.specs.Tables.{AreNodes}
use Rattle.typed_value.proofs.judging.+judging.Given as goal

abbrev pub decreases-judge : goal.decreases-judge
decreases-judge l = 4 * length l.nodes.now

abbrev pub decreases-judge_inside : goal.decreases-judge_inside
decreases-judge_inside l = 4 * length l.parts.now + 3

abbrev pub decreases-judge_fields : goal.decreases-judge_fields
decreases-judge_fields l = 4 * length l.parts.now + 2

abbrev pub decreases-judge_items : goal.decreases-judge_items
decreases-judge_items l = 4 * length l.parts.now + 1

abbrev pub decreases-judge_entries : goal.decreases-judge_entries
decreases-judge_entries l = 4 * length l.parts.now + 1

abbrev pub decreases-judge_members : goal.decreases-judge_members
decreases-judge_members l = 4 * length l.parts.now + 1

abbrev pub invariant-judge_items-loop-index : goal.invariant-judge_items-loop-index
invariant-judge_items-loop-index l = record {
  within : l.start ≤ length l.parts;
  nodes : AreNodes (drop l.start l.parts) (drop l.index l.items);
  due : l.faults ++ items_faults l.fn.item l.path l.index (map (faults_where l.model.shapes) (drop l.index l.items))
      ≡ l.fn.faults ++ items_faults l.fn.item l.path 0 (map (faults_where l.model.shapes) l.items);
}

abbrev pub invariant-judge_entries-loop-field : goal.invariant-judge_entries-loop-field
invariant-judge_entries-loop-field l = record {
  within : l.start ≤ length l.parts;
  nodes : AreNodes (drop l.start l.parts) (drop l.field-index (map (λ p. p.value) l.fields));
  due : l.faults ≡ l.fn.faults ++ flat_map (λ p. item_faults l.fn.item (below l.path p.key) (faults_where l.model.shapes p.value)) (take l.field-index l.fields);
}

abbrev pub invariant-judge_members-loop-field : goal.invariant-judge_members-loop-field
invariant-judge_members-loop-field l = record {
  within : l.start ≤ length l.parts;
  nodes : AreNodes (drop l.start l.parts) (drop l.field-index (map (λ p. p.value) l.fields));
  due : l.faults ≡ l.fn.faults ++ flat_map (λ p. member_faults (below l.path p.key) (faults_where l.model.shapes p.value) (member_named p.key l.shape.members)) (take l.field-index l.fields);
}
