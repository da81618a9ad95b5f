use Rattle.std.proofs.Common.{◌≡◌, ◌+◌, drop}
use Rattle.std.specs.Prelude.{option_map}
use Rattle.http_reply.specs.Cuts.{head_end}
use Rattle.http_reply.proofs.cuts.head_end.Given as goal

-- what is left to search gives where the first one ends
abbrev pub invariant-loop-at : goal.invariant-loop-at
invariant-loop-at l = head_end l.bytes ≡ option_map (λ n. n + l.at) (head_end (drop l.at l.bytes))
