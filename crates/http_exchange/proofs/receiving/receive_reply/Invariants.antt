use Rattle.std.proofs.Common.{◌≡◌, ◌≤◌, ◌+◌, ◌-◌, ℕ, List, true, length}
use Rattle.aws_world.specs.Told.{Tells}
use Rattle.aws_world.specs.Connection.{on_last, more_received}
use Rattle.http_reply.specs.declared.limits.TheConstants.{TOTAL_LIMIT}
use Rattle.http_reply.specs.Waiting.{WaitsAfter}
use Rattle.http_exchange.proofs.receiving.receive_reply.Given as goal

-- these bytes came so far, and decide nothing yet
abbrev pub invariant-loop-reader : goal.invariant-loop-reader
invariant-loop-reader g l = record {
  live : g.L.Link.live l.link ≡ true;
  size : length l.room ≡ 16384;
  going : ((received : List ℕ) × WaitsAfter l.head_only received l.reader
      × Tells (g.L.Link.told l.fn.link) (g.L.Link.told l.link) (λ before after. after ≡ on_last (more_received received) before));
  later : g.L.Link.faults l.fn.link ≤ g.L.Link.faults l.link;
}

abbrev pub decreases-loop-reader : goal.decreases-loop-reader
decreases-loop-reader g l = TOTAL_LIMIT + 1 - l.reader.count
