use Rattle.std.proofs.Common.{◌≡◌, map}
use Rattle.std.specs.Prelude.{flat_map}
use Rattle.model_store.specs.Folders.{part_of}
use Rattle.model_store.proofs.folders.parts.Given as goal

-- the parts so far
abbrev pub invariant-loop-part : goal.invariant-loop-part
invariant-loop-part l = l.made ≡ flat_map part_of (map (λ part. part.now) l.yielded)
