use Rattle.std.proofs.Common.{◌≡◌, ◌++◌, map, drop}
use Rattle.std.specs.Prelude.{filter}
use Rattle.texts.specs.Keys.{keys}
use Rattle.out_format.specs.Borrowed.{members_of}
use Rattle.out_format.specs.Layers.{layer_of, is_object}
use Rattle.out_format.specs.Members.{object_cells}
use Rattle.out_format.proofs.table_rows.object_rows.Given as goal

-- the rows so far and those that are due are all of them
abbrev pub invariant-loop-doc : goal.invariant-loop-doc
invariant-loop-doc l =
    l.rows ++ map (object_cells (keys (members_of l.columns.entries))) (filter is_object (map layer_of (drop l.doc-index l.docs)))
    ≡ map (object_cells (keys (members_of l.columns.entries))) (filter is_object (map layer_of l.docs))
