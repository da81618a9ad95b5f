use Rattle.std.proofs.Common.{◌≡◌, map, take}
use Rattle.wait_plan.specs.Matches.{told, matches}
use Rattle.wait_plan.proofs.matching.matched.Given as goal

abbrev pub invariant-loop-test : goal.invariant-loop-test
invariant-loop-test l = l.matched ≡ map (matches (told l.outcome) l.status) (take l.test-index l.test-items)
