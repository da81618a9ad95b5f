use Rattle.std.proofs.Common.{◌≡◌, ℕ, ◌<◌, true, false, length, get_or, None}
use Rattle.service_model.specs.declared.shape.Shape.{Shape}
use Rattle.service_model.specs.Admission.{shared_argument}
use Rattle.service_model.proofs.admission.shared_arguments.Given as goal

-- the names of the inputs so far are known
abbrev pub invariant-loop-at : goal.invariant-loop-at
invariant-loop-at l = record {
  size : length l.shared.items ≡ l.at;
  named : (k : ℕ) (d : Shape) → k < l.at → get_or l.inputs.items k false ≡ true → get_or l.shared.items k None ≡ shared_argument l.shapes (get_or l.shapes k d).members;
}
