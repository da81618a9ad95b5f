use Rattle.std.proofs.Common.{◌≡◌, drop}
use Rattle.model_files.specs.Faults.{each_from}
use Rattle.model_files.specs.Waiters.{acceptor_of}
use Rattle.model_files.proofs.Each.{with_front}
use Rattle.model_files.proofs.waiters.read_acceptors.Given as goal

-- with the acceptors so far in front, what the items left give is what all give
abbrev pub invariant-loop-at : goal.invariant-loop-at
invariant-loop-at l = with_front l.acceptors (each_from acceptor_of l.at (drop l.at l.items)) ≡ each_from acceptor_of 0 l.items
