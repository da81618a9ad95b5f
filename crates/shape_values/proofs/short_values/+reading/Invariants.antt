use Rattle.std.proofs.Common.{◌≡◌, drop, take}
use Rattle.texts.specs.Keys.{keys}
use Rattle.shape_values.specs.Faults.{each_from, each_field}
use Rattle.shape_values.specs.Instants.{Instants, TellsTimes}
use Rattle.shape_values.proofs.Each.{with_front}
use Rattle.shape_values.proofs.ShortParts.{item_of, entry_of, member_of}
use Rattle.shape_values.proofs.short_values.+reading.Given as goal

abbrev pub invariant-items_value-loop-at : goal.invariant-items_value-loop-at
invariant-items_value-loop-at l =
    (instants : Instants) → TellsTimes instants
    → with_front l.made (each_from (item_of instants l.model.shapes l.item) l.at (drop l.at l.items)) ≡ each_from (item_of instants l.model.shapes l.item) 0 l.items

abbrev pub invariant-entries_value-loop-field : goal.invariant-entries_value-loop-field
invariant-entries_value-loop-field l = record {
  made : (instants : Instants) → TellsTimes instants
      → with_front l.made (each_field (entry_of instants l.model.shapes l.item) (drop l.field-index l.field-items)) ≡ each_field (entry_of instants l.model.shapes l.item) l.field-items;
  keyed : keys l.made ≡ take l.field-index (keys l.field-items);
}

abbrev pub invariant-members_value-loop-field : goal.invariant-members_value-loop-field
invariant-members_value-loop-field l = record {
  made : (instants : Instants) → TellsTimes instants
      → with_front l.made (each_field (member_of instants l.model.shapes l.shape.members) (drop l.field-index l.field-items)) ≡ each_field (member_of instants l.model.shapes l.shape.members) l.field-items;
  keyed : keys l.made ≡ take l.field-index (keys l.field-items);
}
