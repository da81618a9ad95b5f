use Rattle.std.proofs.Common.{◌≡◌, ◌+◌, ◌∷◌, ◌++◌, [], drop, replicate}
use Rattle.std.specs.List.{flat_map}
use Rattle.out_format.proofs.section.write_border.Given as goal

-- the columns so far and those that are due are all of them
abbrev pub invariant-loop-width : goal.invariant-loop-width
invariant-loop-width l =
    l.out ++ flat_map (λ w. replicate (w + 2) 45 ++ 43 ∷ []) (drop l.width-index l.widths)
    ≡ l.fn.out ++ (43 ∷ flat_map (λ w. replicate (w + 2) 45 ++ 43 ∷ []) l.widths)
