use Rattle.std.proofs.Common.{◌≡◌, ◌++◌, drop}
use Rattle.json_doc.proofs.copied.+copying.Given as goal

abbrev pub invariant-copy_items-loop-item : goal.invariant-copy_items-loop-item
invariant-copy_items-loop-item l = l.made ++ drop l.item-index l.item-items ≡ l.item-items

abbrev pub invariant-copy_fields-loop-field : goal.invariant-copy_fields-loop-field
invariant-copy_fields-loop-field l = l.made ++ drop l.field-index l.field-items ≡ l.field-items
