-- A new connection that sends and receives is one exchange.
use Rattle.std.proofs.Common.{◌≡◌, ℕ, Bool, false, List, [], ◌∷◌, ◌++◌, length, take, Option, refl, sym, ap, ◌∙◌, subst, arith, inl, inr}
use Rattle.std.proofs.Math.Seq.{take-length}
use Rattle.aws_world.specs.declared.message.Target.{Target}
use Rattle.aws_world.specs.declared.link.LinkFault.{LinkFault}
use Rattle.aws_world.specs.Told.{Tells}
use Rattle.aws_world.specs.declared.connection.Connection.{Connection}
use Rattle.aws_world.specs.Connection.{fresh, refused, on_last, more_sent, more_received, peer_ended, faulted}
use Rattle.aws_world.proofs.Told.{tells_both, tells_weaker}
use Rattle.aws_world.proofs.Last.{on_last_at_end, tells_added_then}
use Rattle.http_reply.specs.declared.outcome.Outcome.{Outcome}
use Rattle.http_reply.specs.declared.outcome.Outcome.TheVariants.{Lost, OutOfMemory}
use Rattle.http_reply.specs.Outcome.{IsOutcome, Waits}
use Rattle.http_exchange.specs.Exchange.{SendsFront, Stop, decided, ended, failed, has_ended, fault_in, stopped, RunsOut, WaitedBefore, StopsInTime, Receives, HasSent, AddsExchange}

-- nothing was sent: all of an empty request, or a proper front
none_sent : (request : List ℕ) (fault : LinkFault) (c : Connection) → c.sent ≡ [] → c.received ≡ [] → c.ended ≡ false → HasSent request (Lost fault) c
none_sent [] fault c s r e = inl s
none_sent (b ∷ bs) fault c s r e = inr (0, omega arith, s, tt, r, e)

-- a fault is no want of memory
not_memory : (fault : LinkFault) → ¬ (Lost fault ≡ OutOfMemory)
not_memory fault e = cc

-- after an end or a fault all that was received decides nothing
waited_all : (head_only : Bool) (received : List ℕ) → Waits head_only received → WaitedBefore head_only received
waited_all head_only received waits = (length received, omega arith, subst (Waits head_only) (sym (take-length received)) waits)

module _ (target : Target) (request : List ℕ) (head_only : Bool) where
  -- the connection was refused
  pub adds_refused : (fault : LinkFault) (first last : Option (List Connection)) → Waits head_only []
      → Tells first last (λ before after. after ≡ before ++ refused fault target.host target.port ∷ [])
      → Tells first last (AddsExchange target request head_only (Lost fault))
  adds_refused fault first last waits told =
      let c = refused fault target.host target.port in
      tells_weaker (λ x z. z ≡ x ++ c ∷ []) (AddsExchange target request head_only (Lost fault)) first last told
      (λ x z e. (c, e, record { host = refl; port = refl; sent = none_sent request fault c refl refl refl; outcome_is = (waits, refl); memory = λ o. absurd (not_memory fault o); in_time = record { before = waited_all head_only [] waits; unless = inr waits } }))

  -- the connection failed while the request was sent
  pub adds_unsent : (fault : LinkFault) (first mid last : Option (List Connection)) → Waits head_only []
      → Tells first mid (λ before after. after ≡ before ++ fresh target.host target.port ∷ [])
      → Tells mid last (SendsFront request fault) → Tells first last (AddsExchange target request head_only (Lost fault))
  adds_unsent fault first mid last waits made sending =
      let start = fresh target.host target.port in
      tells_both (λ x y. y ≡ x ++ start ∷ []) (SendsFront request fault) (AddsExchange target request head_only (Lost fault)) first mid last made sending
      (λ x y z e s.
      let front = more_sent (take s.0 request) in (
        faulted fault (front start),
        s.2 ∙ ap (λ w. on_last (faulted fault) (on_last front w)) e ∙ ap (on_last (faulted fault)) (on_last_at_end front x start) ∙ on_last_at_end (faulted fault) x (front start),
        record { host = refl; port = refl; sent = inr (s.0, s.1, refl, tt, refl, refl); outcome_is = (waits, refl); memory = λ o. absurd (not_memory fault o); in_time = record { before = waited_all head_only [] waits; unless = inr waits } },
      ))

  -- the new connection with the whole request sent
  abbrev asked : Connection
  asked = more_sent request (fresh target.host target.port)

  -- that connection, with what it received and how it stopped
  received_so : (received : List ℕ) (stop : Stop) (outcome : Outcome) (x z : List Connection)
      → z ≡ stopped stop (on_last (more_received received) (x ++ asked ∷ [])) → IsOutcome head_only received (has_ended stop) (fault_in stop) outcome
      → RunsOut outcome received stop → StopsInTime head_only received stop → AddsExchange target request head_only outcome x z
  received_so received decided outcome x z e is memory waits = (
    more_received received asked,
    e ∙ on_last_at_end (more_received received) x asked,
    record { host = refl; port = refl; sent = inl refl; outcome_is = is; memory = λ o. ((memory o).0, (refl, refl)); in_time = record { before = waits; unless = inl (refl, refl) } },
  )
  received_so received ended outcome x z e is memory waits =
      let c = more_received received asked in (
        peer_ended c,
        e ∙ ap (on_last peer_ended) (on_last_at_end (more_received received) x asked) ∙ on_last_at_end peer_ended x c,
        record { host = refl; port = refl; sent = inl refl; outcome_is = is; memory = λ o. (let f : ended ≡ decided = (memory o).1 in cc); in_time = record { before = waited_all head_only received waits; unless = inr waits } },
      )
  received_so received (failed fault) outcome x z e is memory waits =
      let c = more_received received asked in (
        faulted fault c,
        e ∙ ap (on_last (faulted fault)) (on_last_at_end (more_received received) x asked) ∙ on_last_at_end (faulted fault) x c,
        record { host = refl; port = refl; sent = inl refl; outcome_is = is; memory = λ o. (let f : failed fault ≡ decided = (memory o).1 in cc); in_time = record { before = waited_all head_only received waits; unless = inr waits } },
      )

  -- the request was sent and the reply received
  pub adds_answered : (outcome : Outcome) (first made sent last : Option (List Connection))
      → Tells first made (λ before after. after ≡ before ++ fresh target.host target.port ∷ [])
      → Tells made sent (λ before after. after ≡ on_last (more_sent request) before) → Tells sent last (Receives head_only outcome)
      → Tells first last (AddsExchange target request head_only outcome)
  adds_answered outcome first made sent last m s r =
      let asks = tells_added_then (fresh target.host target.port) (more_sent request) first made sent m s in
      tells_both (λ x y. y ≡ x ++ asked ∷ []) (Receives head_only outcome) (AddsExchange target request head_only outcome) first sent last asks r
      (λ x y z e k. received_so k.0 k.1 outcome x z (k.2 ∙ ap (λ w. stopped k.1 (on_last (more_received k.0) w)) e) k.3 k.4 k.5)
