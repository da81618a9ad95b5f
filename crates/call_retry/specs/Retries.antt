-- Which attempt is followed by another, when, and what that costs.
use Rattle.std.specs.Prelude.{ℕ, ◌+◌, ◌-◌, ◌*◌, ◌/◌, ◌^◌, ◌||◌, nat_le, nat_lt, min, if◌then◌else◌}
use Rattle.call_retry.specs.declared.class.Class.{Class}
use Rattle.call_retry.specs.declared.class.Class.TheVariants.{Good, Final, Again}
use Rattle.call_retry.specs.declared.retry.Decision.{Decision}
use Rattle.call_retry.specs.declared.retry.Decision.TheVariants as decision

-- an attempt is followed by another unless its class forbids it, it is the last that is allowed, or the quota
-- doesn't suffice
abbrev pub decide : Class → ℕ → ℕ → ℕ → Decision
decide (Again cost) attempt limit left =
    if nat_le limit attempt || nat_lt left cost then decision.End else decision.Again cost
decide others attempt limit left = decision.End

-- the milliseconds before the attempt that follows: a random part, by a word of 32 bits, of a time that doubles, up
-- to 20 seconds
abbrev pub backoff : ℕ → ℕ → ℕ
backoff attempt word = min (word * 1000 * 2 ^ (attempt - 1) / 2 ^ 32) 20000

-- the quota after an amount is given back
abbrev pub given_back : ℕ → ℕ → ℕ
given_back left amount = min (left + amount) 500
