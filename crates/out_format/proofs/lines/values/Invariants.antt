use Rattle.std.proofs.Common.{◌≡◌, ◌++◌, map, drop}
use Rattle.out_format.specs.Layers.{layer_of}
use Rattle.out_format.specs.Text.{texts_of}
use Rattle.out_format.specs.declared.cell.Cell.TheVariants.{Value}
use Rattle.out_format.proofs.lines.values.Given as goal

-- the cells so far and those that are due are all of them
abbrev pub invariant-loop-doc : goal.invariant-loop-doc
invariant-loop-doc l =
    l.values ++ map Value (texts_of (map layer_of (drop l.doc-index l.docs))) ≡ map Value (texts_of (map layer_of l.docs))
