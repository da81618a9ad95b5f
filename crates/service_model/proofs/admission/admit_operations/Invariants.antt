use Rattle.std.specs.List.{AllZip}
use Rattle.service_model.specs.Admission.{IsAdmitted}
use Rattle.service_model.proofs.admission.admit_operations.Given as goal

abbrev pub invariant-loop-row : goal.invariant-loop-row
invariant-loop-row l = AllZip (IsAdmitted l.metadata.protocol l.shapes) l.yielded l.operations.items
