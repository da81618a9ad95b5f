use Rattle.std.proofs.Common.{◌≡◌, ◌≤◌, ◌+◌, ◌-◌, false, List, length}
use Rattle.aws_world.specs.Told.{Tells}
use Rattle.call_retry.specs.Attempts.{Attempt}
use Rattle.call_retry.specs.Calls.{AddsConnections, AddsMoments, AddsWords}
use Rattle.call_retry.specs.Inside.{order_asked}
use Rattle.call_retry.proofs.Turns.{Leads}
use Rattle.call_retry.proofs.calls.call.Given as goal

-- these attempts were made and are all followed by others
abbrev pub invariant-loop-end : goal.invariant-loop-end
invariant-loop-end g l = record {
  live : g.L.Link.live l.link ≡ false;
  first : 1 ≤ l.turn.number;
  most : l.turn.number ≤ l.turn.limit;
  limit : l.turn.limit ≡ l.asking.limit;
  going : ((made : List Attempt) × (1 + length made ≡ l.turn.number)
      × Leads (order_asked l.asking) l.message l.fn.quota made l.turn.number l.quota l.turn.back
      × Tells (g.L.Link.told l.fn.link) (g.L.Link.told l.link) (AddsConnections (order_asked l.asking) made)
      × Tells (g.C.Clock.told l.fn.clock) (g.C.Clock.told l.clock) (AddsMoments made)
      × Tells (g.D.Dice.told l.fn.dice) (g.D.Dice.told l.dice) (AddsWords made));
  link_later : g.L.Link.faults l.fn.link ≤ g.L.Link.faults l.link;
  clock_later : g.C.Clock.faults l.fn.clock ≤ g.C.Clock.faults l.clock;
  dice_later : g.D.Dice.faults l.fn.dice ≤ g.D.Dice.faults l.dice;
}

abbrev pub decreases-loop-end : goal.decreases-loop-end
decreases-loop-end g l = l.turn.limit - l.turn.number
