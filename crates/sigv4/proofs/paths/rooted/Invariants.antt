use Rattle.std.proofs.Common.{◌≡◌, ◌++◌, ◌∷◌, drop}
use Rattle.std.specs.Prelude.{flat_map}
use Rattle.sigv4.proofs.paths.rooted.Given as goal

-- the segments so far and those that are due are all of them
abbrev pub invariant-loop-segment : goal.invariant-loop-segment
invariant-loop-segment l =
    l.path ++ flat_map (λ s. 47 ∷ s) (drop l.segment-index l.segments) ≡ flat_map (λ s. 47 ∷ s) l.segments
