use Rattle.std.proofs.Common.{◌≡◌, ◌++◌, take, drop}
use Rattle.service_model.specs.Labels.{before_query}
use Rattle.service_model.proofs.labels.before_query.Given as goal

-- what stands before the first `?` is what was passed and what stands before it in what is left
abbrev pub invariant-loop-at : goal.invariant-loop-at
invariant-loop-at l = take l.at l.chars ++ before_query (drop l.at l.chars) ≡ before_query l.chars
