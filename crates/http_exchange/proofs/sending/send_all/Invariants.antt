use Rattle.std.proofs.Common.{◌≡◌, ◌≤◌, ◌-◌, true, false, length, take}
use Rattle.aws_world.specs.Told.{Tells}
use Rattle.aws_world.specs.Connection.{on_last, more_sent}
use Rattle.http_exchange.proofs.sending.send_all.Given as goal

-- the bytes before the place were sent
abbrev pub invariant-loop-at : goal.invariant-loop-at
invariant-loop-at g l = record {
  live : g.L.Link.live l.link ≡ true;
  unheard : g.L.Link.heard l.link ≡ false;
  within : l.at ≤ length l.bytes;
  sent : Tells (g.L.Link.told l.fn.link) (g.L.Link.told l.link) (λ before after. after ≡ on_last (more_sent (take l.at l.bytes)) before);
  later : g.L.Link.faults l.fn.link ≤ g.L.Link.faults l.link;
}

abbrev pub decreases-loop-at : goal.decreases-loop-at
decreases-loop-at g l = length l.bytes - l.at
