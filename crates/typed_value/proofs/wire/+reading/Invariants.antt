use Rattle.std.proofs.Common.{◌≡◌, ◌+◌, ◌*◌, List, [], Some, map, take}
use denote.Param.Weighed.{most}
use Rattle.json_doc.specs.declared.doc.Doc.{size-Doc}
use Rattle.json_doc.specs.Grammar.{put_all}
use Rattle.texts.specs.declared.pairs.Pair.{Pair}
use Rattle.texts.specs.Keys.{keys}
use Rattle.typed_value.specs.declared.typed.Typed.{Typed}
use Rattle.typed_value.specs.Wire.{all_there}
use Rattle.typed_value.proofs.Gathered.{item_of, entry_of, field_of}
use Rattle.typed_value.proofs.wire.+reading.Given as goal

abbrev pub decreases-from_wire : goal.decreases-from_wire
decreases-from_wire l = 3 * goal.size-from_wire l

abbrev pub decreases-items_of : goal.decreases-items_of
decreases-items_of l = 3 * goal.size-items_of l + 2

abbrev pub decreases-read_items : goal.decreases-read_items
decreases-read_items l = 3 * goal.size-read_items l + 1

abbrev pub decreases-fields_of : goal.decreases-fields_of
decreases-fields_of l = 3 * most (λ p. size-Doc p.value) l.fields.now + 2

abbrev pub decreases-read_entries : goal.decreases-read_entries
decreases-read_entries l = 3 * most (λ p. size-Doc p.value) l.fields.now + 1

abbrev pub decreases-read_members : goal.decreases-read_members
decreases-read_members l = 3 * most (λ p. size-Doc p.value) l.fields.now + 1

abbrev pub invariant-read_items-loop-doc : goal.invariant-read_items-loop-doc
invariant-read_items-loop-doc l = all_there (map (item_of l.model.shapes l.item) (take l.doc-index l.items)) ≡ Some l.made

abbrev pub invariant-read_entries-loop-field : goal.invariant-read_entries-loop-field
invariant-read_entries-loop-field l = record {
  there : all_there (map (entry_of l.model.shapes l.item) (take l.field-index l.field-items)) ≡ Some l.made;
  keyed : keys l.made ≡ take l.field-index (keys l.field-items);
}

abbrev pub invariant-read_members-loop-field : goal.invariant-read_members-loop-field
invariant-read_members-loop-field l =
    (qs : List (Pair Typed)) × (all_there (map (field_of l.model.shapes l.members) (take l.field-index l.fields)) ≡ Some qs) × (l.made ≡ put_all [] qs)
