use Rattle.std.proofs.Common.{◌≡◌, [], ◌∷◌, ◌++◌, take}
use Rattle.std.specs.Prelude.{codes}
use Rattle.std.specs.List.{flat_map}
use Rattle.typed_value.specs.Lines.{line_of}
use Rattle.typed_value.proofs.lines.report.Given as goal

abbrev pub invariant-loop-fault : goal.invariant-loop-fault
invariant-loop-fault l =
    l.out ≡ codes "Parameter validation failed:" ++ flat_map (λ fault. 10 ∷ [] ++ line_of l.model.shapes fault) (take l.fault-index l.fault-items)
