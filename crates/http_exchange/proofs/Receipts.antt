-- What was received on the last connection, and what it makes of the reply.
use Rattle.std.proofs.Common.{◌≡◌, ℕ, ◌+◌, ◌-◌, ◌<◌, ◌≤◌, Bool, true, false, List, ◌++◌, length, Option, None, Some, refl, sym, ap, ◌∙◌, subst, arith, length-append}
use Rattle.std.proofs.Math.Seq.{take-append_seam}
use Rattle.aws_world.specs.declared.link.LinkFault.{LinkFault}
use Rattle.aws_world.specs.Told.{Tells}
use Rattle.aws_world.specs.declared.connection.Connection.{Connection}
use Rattle.aws_world.specs.Connection.{on_last, more_received, peer_ended, faulted}
use Rattle.aws_world.proofs.Told.{tells_both, tells_weaker}
use Rattle.aws_world.proofs.Pieces.{tells_received_more}
use Rattle.http_reply.specs.declared.outcome.Outcome.{Outcome}
use Rattle.http_reply.specs.declared.outcome.Outcome.TheVariants.{Whole, Lost, Cut, Malformed, TooLarge, OutOfMemory}
use Rattle.http_reply.specs.Outcome.{IsOutcome, Waits}
use Rattle.http_exchange.specs.declared.receiving.TheConstants.{ROOM}
use Rattle.http_exchange.specs.Exchange.{Receives, WaitedBefore, IsLost, decided, ended, failed}

-- the bytes decided
pub receipt_decided : (head_only : Bool) (received : List ℕ) (outcome : Outcome) (first last : Option (List Connection))
    → Tells first last (λ before after. after ≡ on_last (more_received received) before) → IsOutcome head_only received false None outcome
    → 0 < length received → WaitedBefore head_only received → Tells first last (Receives head_only outcome)
receipt_decided head_only received outcome first last told is some waited =
    tells_weaker (λ x z. z ≡ on_last (more_received received) x) (Receives head_only outcome) first last told (λ x z e. (received, decided, e, is, λ o. (some, refl), waited))

-- the peer ended
pub receipt_ended : (head_only : Bool) (received : List ℕ) (outcome : Outcome) (first mid last : Option (List Connection))
    → Tells first mid (λ before after. after ≡ on_last (more_received received) before) → Tells mid last (λ before after. after ≡ on_last peer_ended before)
    → IsOutcome head_only received true None outcome → ¬ (outcome ≡ OutOfMemory) → Waits head_only received → Tells first last (Receives head_only outcome)
receipt_ended head_only received outcome first mid last told end is memory waits =
    tells_both (λ x y. y ≡ on_last (more_received received) x) (λ y z. z ≡ on_last peer_ended y) (Receives head_only outcome) first mid last told end
    (λ x y z e f. (received, ended, f ∙ ap (on_last peer_ended) e, is, λ o. absurd (memory o), waits))

-- the link failed
pub receipt_failed : (head_only : Bool) (received : List ℕ) (fault : LinkFault) (outcome : Outcome) (first mid last : Option (List Connection))
    → Tells first mid (λ before after. after ≡ on_last (more_received received) before) → Tells mid last (λ before after. after ≡ on_last (faulted fault) before)
    → IsOutcome head_only received false (Some fault) outcome → ¬ (outcome ≡ OutOfMemory) → Waits head_only received → Tells first last (Receives head_only outcome)
receipt_failed head_only received fault outcome first mid last told end is memory waits =
    tells_both (λ x y. y ≡ on_last (more_received received) x) (λ y z. z ≡ on_last (faulted fault) y) (Receives head_only outcome) first mid last told end
    (λ x y z e f. (received, failed fault, f ∙ ap (on_last (faulted fault)) e, is, λ o. absurd (memory o), waits))

-- without a fault no exchange is lost
pub not_lost : (head_only : Bool) (received : List ℕ) (end : Bool) (outcome : Outcome) → IsOutcome head_only received end None outcome → IsLost outcome → ⊥
not_lost head_only received end (Whole reply) is lost = lost
not_lost head_only received end (Lost kind) is lost = let e : None ≡ Some kind = is.1 in cc
not_lost head_only received end Cut is lost = lost
not_lost head_only received end Malformed is lost = lost
not_lost head_only received end TooLarge is lost = lost
not_lost head_only received end OutOfMemory is lost = lost

-- a piece brings the bytes nearer to the limit of all
pub piece_nearer : (received piece : List ℕ) (old new count total : ℕ) → old ≡ length received → new ≡ length (received ++ piece) → length piece ≡ count
    → 0 < count → length received ≤ total → total + 1 - new < total + 1 - old
piece_nearer received piece old new count total e f g some within = omega (arith, length-append received piece)

-- one more piece came
pub piece_received : (received piece taken : List ℕ) (first mid last : Option (List Connection)) → piece ≡ taken
    → Tells first mid (λ before after. after ≡ on_last (more_received received) before)
    → Tells mid last (λ before after. after ≡ on_last (more_received taken) before)
    → Tells first last (λ before after. after ≡ on_last (more_received (received ++ piece)) before)
piece_received received piece taken first mid last e p q =
    subst (λ all. Tells first last (λ before after. after ≡ on_last (more_received (received ++ all)) before)) (sym e)
    (tells_received_more received taken first mid last p q)

-- bytes that decide nothing, and a piece
pub waited_before : (head_only : Bool) (received piece : List ℕ) (size : ℕ) → Waits head_only received → length piece ≡ size → size ≤ ROOM
    → WaitedBefore head_only (received ++ piece)
waited_before head_only received piece size waits e within = (
  length received,
  omega (arith, length-append received piece),
  subst (Waits head_only) (sym (take-append_seam received piece)) waits,
)
