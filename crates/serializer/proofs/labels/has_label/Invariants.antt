use Rattle.std.proofs.Common.{◌≡◌, false, take}
use Rattle.serializer.specs.Labels.{has_label}
use Rattle.serializer.proofs.labels.has_label.Given as goal

-- none of the labels so far is the member's
abbrev pub invariant-loop-piece : goal.invariant-loop-piece
invariant-loop-piece l = has_label l.place (take l.piece-index l.pieces) l.member ≡ false
