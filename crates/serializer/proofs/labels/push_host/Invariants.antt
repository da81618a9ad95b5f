use Rattle.std.proofs.Common.{◌≡◌, ◌++◌, drop}
use Rattle.serializer.specs.Labels.{host_text}
use Rattle.serializer.proofs.labels.push_host.Given as goal

-- the pieces so far and those that are due are all of them
abbrev pub invariant-loop-piece : goal.invariant-loop-piece
invariant-loop-piece l =
    l.out ++ host_text l.model.shapes l.members l.fields (drop l.piece-index l.pieces) ≡ l.fn.out ++ host_text l.model.shapes l.members l.fields l.pieces
