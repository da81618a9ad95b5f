use Rattle.std.proofs.Common.{◌≡◌, map, take}
use Rattle.service_model.proofs.admission.event_marks.Given as goal

abbrev pub invariant-loop-shape : goal.invariant-loop-shape
invariant-loop-shape l = l.marks.items ≡ map (λ shape. shape.events) (take l.shape-index l.shapes)
