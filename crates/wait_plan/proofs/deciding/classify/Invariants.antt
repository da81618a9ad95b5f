use Rattle.std.proofs.Common.{◌≡◌, drop}
use Rattle.wait_plan.specs.Matches.{first_match}
use Rattle.wait_plan.proofs.deciding.classify.Given as goal

-- none so far has matched
abbrev pub invariant-loop-at : goal.invariant-loop-at
invariant-loop-at l = first_match (drop l.at l.states) (drop l.at l.matched) ≡ first_match l.states l.matched
