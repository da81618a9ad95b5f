use Rattle.std.proofs.Common.{◌≡◌, ◌++◌, ◌∷◌, [], Some, drop}
use Rattle.std.specs.List.{flat_map}
use Rattle.out_format.specs.Text.{behind_key, line_text}
use Rattle.out_format.proofs.lines.write_each.Given as goal

-- the lines so far and those that are due are all of them
abbrev pub invariant-loop-cell : goal.invariant-loop-cell
invariant-loop-cell l =
    l.out ++ flat_map (λ cell. line_text (behind_key (Some l.key) (cell ∷ []))) (drop l.cell-index l.cells)
    ≡ l.fn.out ++ flat_map (λ cell. line_text (behind_key (Some l.key) (cell ∷ []))) l.cells
