use Rattle.std.proofs.Common.{take}
use Rattle.wait_plan.specs.Plans.{AreTests}
use Rattle.wait_plan.proofs.planning.tests_of.Given as goal

-- the acceptors so far have their tests
abbrev pub invariant-loop-at : goal.invariant-loop-at
invariant-loop-at l = AreTests (take l.at l.acceptors) l.tests
