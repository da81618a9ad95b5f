use Rattle.std.proofs.Common.{◌≡◌, ◌++◌, drop}
use Rattle.serializer.specs.Labels.{path_text}
use Rattle.serializer.proofs.labels.push_path.Given as goal

-- the pieces so far and those that are due are all of them
abbrev pub invariant-loop-piece : goal.invariant-loop-piece
invariant-loop-piece l =
    l.out ++ path_text l.model.shapes l.members l.fields (drop l.piece-index l.pieces) ≡ l.fn.out ++ path_text l.model.shapes l.members l.fields l.pieces
