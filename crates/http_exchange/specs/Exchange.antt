-- One exchange, as what it does to the list of connections that a link has made.
use Rattle.std.specs.Prelude.{◌≡◌, ℕ, ◌+◌, ◌<◌, ◌≤◌, Bool, true, false, List, [], ◌∷◌, ◌++◌, length, take, Option, None, Some, ◌⊎◌}
use Rattle.aws_world.specs.declared.message.Target.{Target}
use Rattle.aws_world.specs.declared.link.LinkFault.{LinkFault}
use Rattle.aws_world.specs.declared.connection.Connection.{Connection}
use Rattle.aws_world.specs.Connection.{on_last, more_sent, more_received, peer_ended, faulted}
use Rattle.http_reply.specs.declared.outcome.Outcome.{Outcome}
use Rattle.http_reply.specs.declared.outcome.Outcome.TheVariants.{Whole, Lost, Cut, Malformed, TooLarge, OutOfMemory}
use Rattle.http_reply.specs.Outcome.{IsOutcome, Waits}
use Rattle.http_exchange.specs.declared.receiving.TheConstants.{ROOM}

abbrev pub IsLost : Outcome → Type 0
IsLost (Lost fault) = Unit {0}
IsLost (Whole reply) = ⊥
IsLost Cut = ⊥
IsLost Malformed = ⊥
IsLost TooLarge = ⊥
IsLost OutOfMemory = ⊥

-- a proper front of the bytes was sent on the last connection, which then failed
abbrev pub SendsFront : List ℕ → LinkFault → List Connection → List Connection → Type 0
SendsFront bytes fault before after =
    (n : ℕ) × (n < length bytes) × (after ≡ on_last (faulted fault) (on_last (more_sent (take n bytes)) before))

-- how receiving stopped: the bytes decided, the peer ended, or the link failed
pub data Stop : Type 0 where
  decided ended : Stop
  failed : LinkFault → Stop

abbrev pub has_ended : Stop → Bool
has_ended decided = false
has_ended ended = true
has_ended (failed fault) = false

abbrev pub fault_in : Stop → Option LinkFault
fault_in decided = None
fault_in ended = None
fault_in (failed fault) = Some fault

-- what a stop does to the last connection
abbrev pub stopped : Stop → List Connection → List Connection
stopped decided connections = connections
stopped ended connections = on_last peer_ended connections
stopped (failed fault) connections = on_last (faulted fault) connections

-- memory ran out only where bytes came and the peer neither ended nor failed
abbrev pub RunsOut : Outcome → List ℕ → Stop → Type 0
RunsOut outcome received stop = outcome ≡ OutOfMemory → (0 < length received) × (stop ≡ decided)

-- bytes that decide nothing, and at most the room of a piece more
abbrev pub WaitedBefore : Bool → List ℕ → Type 0
WaitedBefore head_only received = (n : ℕ) × (length received ≤ n + ROOM) × Waits head_only (take n received)

-- receiving stopped within a piece of what decides, and then awaited neither an end nor a fault
abbrev pub StopsInTime : Bool → List ℕ → Stop → Type 0
StopsInTime head_only received decided = WaitedBefore head_only received
StopsInTime head_only received ended = Waits head_only received
StopsInTime head_only received (failed fault) = Waits head_only received

-- bytes came on the last connection and then it stopped, and the outcome is that of the bytes
abbrev pub Receives : Bool → Outcome → List Connection → List Connection → Type 0
Receives head_only outcome before after =
    (received : List ℕ) × (stop : Stop) × (after ≡ stopped stop (on_last (more_received received) before))
    × IsOutcome head_only received (has_ended stop) (fault_in stop) outcome × RunsOut outcome received stop
    × StopsInTime head_only received stop

-- all of the request was sent; or the exchange was lost before, after a proper front of it, and
-- nothing was received
abbrev pub HasSent : List ℕ → Outcome → Connection → Type 0
HasSent request outcome c =
    (c.sent ≡ request) ⊎ ((n : ℕ) × (n < length request) × (c.sent ≡ take n request) × IsLost outcome × (c.received ≡ []) × (c.ended ≡ false))

-- the peer neither ended nor failed
abbrev pub GoesOn : Connection → Type 0
GoesOn c = (c.ended ≡ false) × (c.fault ≡ None)

-- memory ran out only where the connection gave bytes and went on
abbrev pub HasRunOut : Outcome → Connection → Type 0
HasRunOut outcome c = outcome ≡ OutOfMemory → (0 < length c.received) × GoesOn c

-- no more was received than a piece with what decides, nor an end or a fault after that
pub record EndsInTime (head_only : Bool) (c : Connection) : Type 0 where
  pub before : WaitedBefore head_only c.received
  pub unless : GoesOn c ⊎ Waits head_only c.received

-- the connection of one exchange: its target, what it sent, and the outcome of what it received
pub record IsExchange (target : Target) (request : List ℕ) (head_only : Bool) (outcome : Outcome) (c : Connection) : Type 0 where
  pub host : c.host ≡ target.host
  pub port : c.port ≡ target.port
  pub sent : HasSent request outcome c
  pub outcome_is : IsOutcome head_only c.received c.ended c.fault outcome
  pub memory : HasRunOut outcome c
  pub in_time : EndsInTime head_only c

-- one connection more, which is that exchange
abbrev pub AddsExchange : Target → List ℕ → Bool → Outcome → List Connection → List Connection → Type 0
AddsExchange target request head_only outcome before after =
    (c : Connection) × (after ≡ before ++ c ∷ []) × IsExchange target request head_only outcome c
