use Rattle.std.proofs.Common.{◌≡◌, map, take}
use Rattle.wait_plan.proofs.planning.states_of.Given as goal

abbrev pub invariant-loop-acceptor : goal.invariant-loop-acceptor
invariant-loop-acceptor l = l.states ≡ map (λ a. a.state) (take l.acceptor-index l.acceptors)
