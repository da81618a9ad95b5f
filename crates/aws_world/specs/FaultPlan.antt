-- Calls that are to fail, by their numbers. The plan is a part of the objects in memory, whose own contracts
-- alone cite it.
use Rattle.std.specs.Prelude.{◌≡◌, ℕ, ◌+◌, ◌-◌, ◌^◌, List, min, Contains}
use Rattle.aws_world.specs.declared.fault_plan.FaultPlan.{FaultPlan}

-- no call so far
abbrev pub begin : List ℕ → FaultPlan
begin numbers = record { fails = numbers; calls = 0; faults = 0 }

-- the number of the next call, from 1; the counter of 64 bits stays at its last value
abbrev pub next_call : FaultPlan → ℕ
next_call plan = min (plan.calls + 1) (2 ^ 64 - 1)

-- the next call is one of those that fail
abbrev pub FailsNext : FaultPlan → Type 0
FailsNext plan = Contains plan.fails (next_call plan)

-- one more call was counted, and the numbers stayed
pub record AddsCall (before now : FaultPlan) : Type 0 where
  pub calls : now.calls ≡ next_call before
  pub fails : now.fails ≡ before.fails
