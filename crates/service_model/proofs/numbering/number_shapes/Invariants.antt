use Rattle.std.proofs.Common.{◌≡◌, take}
use Rattle.service_model.specs.Numbering.{names_of}
use Rattle.service_model.proofs.numbering.number_shapes.Given as goal

-- the shapes so far are numbered
abbrev pub invariant-loop-pair : goal.invariant-loop-pair
invariant-loop-pair l = l.names.entries ≡ names_of (take l.pair-index l.pair-items)
