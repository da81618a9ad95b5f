use Rattle.std.proofs.Common.{◌≡◌, ◌++◌, map, drop, take}
use Rattle.texts.specs.Keys.{keys}
use Rattle.typed_value.specs.Fits.{with_values}
use Rattle.shape_values.specs.Kept.{kept_document}
use Rattle.shape_values.proofs.kept.+keeping.Given as goal

abbrev pub invariant-kept_items-loop-doc : goal.invariant-kept_items-loop-doc
invariant-kept_items-loop-doc l = l.made ++ map kept_document (drop l.doc-index l.items) ≡ map kept_document l.items

abbrev pub invariant-kept_fields-loop-field : goal.invariant-kept_fields-loop-field
invariant-kept_fields-loop-field l = record {
  made : l.made ++ with_values kept_document (drop l.field-index l.field-items) ≡ with_values kept_document l.field-items;
  keyed : keys l.made ≡ take l.field-index (keys l.field-items);
}
