use Rattle.std.proofs.Common.{◌≡◌, ◌++◌, take, drop}
use Rattle.std.specs.Option.{option_map}
use Rattle.service_model.specs.Labels.{closed}
use Rattle.service_model.proofs.labels.closed.Given as goal

-- what stands before the brace is what was passed and what stands before it in what is left
abbrev pub invariant-loop-at : goal.invariant-loop-at
invariant-loop-at l = option_map (λ cs. take l.at l.chars ++ cs) (closed (drop l.at l.chars)) ≡ closed l.chars
