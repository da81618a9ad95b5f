use Rattle.std.proofs.Common.{◌≡◌, ◌++◌, map, drop, take}
use Rattle.texts.specs.Keys.{keys}
use Rattle.typed_value.specs.Fits.{with_values}
use Rattle.shape_values.specs.Kept.{kept_short}
use Rattle.shape_values.proofs.kept.+keeping_trees.Given as goal

abbrev pub invariant-kept_trees-loop-tree : goal.invariant-kept_trees-loop-tree
invariant-kept_trees-loop-tree l = l.made ++ map kept_short (drop l.tree-index l.items) ≡ map kept_short l.items

abbrev pub invariant-kept_pairs-loop-field : goal.invariant-kept_pairs-loop-field
invariant-kept_pairs-loop-field l = record {
  made : l.made ++ with_values kept_short (drop l.field-index l.field-items) ≡ with_values kept_short l.field-items;
  keyed : keys l.made ≡ take l.field-index (keys l.field-items);
}
