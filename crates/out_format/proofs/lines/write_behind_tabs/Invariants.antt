use Rattle.std.proofs.Common.{◌≡◌, ◌++◌, ◌∷◌, map, drop}
use Rattle.std.specs.List.{flat_map}
use Rattle.out_format.specs.Cells.{cell_text}
use Rattle.out_format.proofs.lines.write_behind_tabs.Given as goal

-- the cells so far and those that are due are all of them
abbrev pub invariant-loop-cell : goal.invariant-loop-cell
invariant-loop-cell l =
    l.out ++ flat_map (λ text. 9 ∷ text) (map cell_text (drop l.cell-index l.cells)) ≡ l.fn.out ++ flat_map (λ text. 9 ∷ text) (map cell_text l.cells)
