-- What an object of the outside tells of its content, and when it may answer a fault.
use Rattle.std.specs.Prelude.{ℕ, ◌+◌, ◌-◌, ◌^◌, ◌≤◌, min, Option, None, Some, Result, OnErr}

-- the object told its content before where it tells it now, and the two are related so
abbrev pub Tells : {A : Type 0} → Option A → Option A → (A → A → Type 0) → Type 0
Tells old None P = Unit {0}
Tells None (Some after) P = ⊥
Tells (Some before) (Some after) P = P before after

-- one more, but for the last value of a counter of 64 bits
abbrev pub one_more : ℕ → ℕ
one_more count = min (count + 1) (2 ^ 64 - 1)

-- a count that rose, or stands at the last value of a counter of 64 bits
abbrev pub Rose : ℕ → ℕ → Type 0
Rose before now = one_more before ≤ now

-- the count of faults never falls, and an error comes only where it rose
pub record HasCause {T E : Type 0} (before now : ℕ) (result : Result T E) : Type 0 where
  pub later : before ≤ now
  pub failed : OnErr result (Rose before now)
