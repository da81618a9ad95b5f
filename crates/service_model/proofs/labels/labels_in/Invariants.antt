use Rattle.std.proofs.Common.{◌≡◌, ◌++◌, drop}
use Rattle.service_model.specs.Labels.{labels_in}
use Rattle.service_model.proofs.labels.labels_in.Given as goal

-- the names so far, and those in what is left
abbrev pub invariant-loop-at : goal.invariant-loop-at
invariant-loop-at l = l.names.items ++ labels_in (drop l.at l.path) ≡ labels_in l.path
