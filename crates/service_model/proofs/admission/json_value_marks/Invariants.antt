use Rattle.std.proofs.Common.{◌≡◌, map, take}
use Rattle.service_model.specs.Admission.{has_stray_json}
use Rattle.service_model.proofs.admission.json_value_marks.Given as goal

abbrev pub invariant-loop-shape : goal.invariant-loop-shape
invariant-loop-shape l = l.marks.items ≡ map (has_stray_json l.shapes) (take l.shape-index l.shapes)
