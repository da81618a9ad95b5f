-- What holds of the outcome, whatever was received.
use Rattle.std.specs.Prelude.{◌≡◌, ℕ, ◌⊎◌, Bool, false, List, ◌++◌, Option, None}
use Rattle.aws_world.specs.declared.link.LinkFault.{LinkFault}
use Rattle.http_reply.specs.declared.outcome.Outcome.{Outcome}
use Rattle.http_reply.specs.declared.outcome.Outcome.TheVariants.{OutOfMemory}
use Rattle.http_reply.specs.Outcome.{IsOutcome}

-- two answers are one, unless memory ran out
abbrev pub IsSame : Outcome → Outcome → Type 0
IsSame a b = (a ≡ b) ⊎ ((a ≡ OutOfMemory) ⊎ (b ≡ OutOfMemory))

-- the bytes received, the end and the fault have one outcome
abbrev pub HasOneOutcome : Type 0
HasOneOutcome =
    (head_only : Bool) (received : List ℕ) (ended : Bool) (fault : Option LinkFault) (a b : Outcome)
    → IsOutcome head_only received ended fault a → IsOutcome head_only received ended fault b → IsSame a b

-- an outcome that bytes have while the peer goes on stays, whatever follows them
abbrev pub FrontDecides : Type 0
FrontDecides =
    (head_only : Bool) (front more : List ℕ) (ended : Bool) (fault : Option LinkFault) (outcome : Outcome)
    → IsOutcome head_only front false None outcome → IsOutcome head_only (front ++ more) ended fault outcome
