use Rattle.std.proofs.Common.{◌≡◌, drop}
use Rattle.std.specs.List.{All}
use Rattle.model_files.proofs.Each.{with_front}
use Rattle.service_model.specs.Kept.{HasOwnNames}
use Rattle.service_model.specs.Shapes.{shapes_of}
use Rattle.service_model.proofs.shapes.read_shapes.Given as goal

-- with the shapes so far in front, what the pairs left give is what all give; the members of each have
-- their own names
abbrev pub invariant-loop-pair : goal.invariant-loop-pair
invariant-loop-pair l =
    (with_front l.shapes.items (shapes_of l.names.entries (drop l.pair-index l.pair-items)) ≡ shapes_of l.names.entries l.fn.pairs)
    × All (λ shape. HasOwnNames shape.members) l.shapes.items
