-- Counts of faults over several calls.
use Rattle.std.proofs.Common.{ℕ, ◌≤◌, Result, Ok, Err, arith}
use Rattle.aws_world.specs.Told.{Rose, HasCause}

-- a count that stays or grows, and then rises
pub rose_after : (before mid now : ℕ) → before ≤ mid → Rose mid now → Rose before now
rose_after before mid now later rose = omega arith

-- a count that rises, and then stays or grows
pub rose_before : (before mid now : ℕ) → Rose before mid → mid ≤ now → Rose before now
rose_before before mid now rose later = omega arith

-- a result has its cause also in the count of an earlier moment
pub cause_after : {T E : Type 0} (before mid now : ℕ) (result : Result T E) → before ≤ mid → HasCause mid now result → HasCause before now result
cause_after before mid now (Ok x) later cause = record { later = omega arith; failed = tt }
cause_after before mid now (Err e) later cause = record { later = omega arith; failed = rose_after before mid now later cause.failed }

-- and also in the count of a later one
pub cause_before : {T E : Type 0} (before mid now : ℕ) (result : Result T E) → HasCause before mid result → mid ≤ now → HasCause before now result
cause_before before mid now (Ok x) cause later = record { later = omega arith; failed = tt }
cause_before before mid now (Err e) cause later = record { later = omega arith; failed = rose_before before mid now cause.failed later }

-- a result that is no error
pub cause_ok : {T E : Type 0} (before now : ℕ) (x : T) → before ≤ now → HasCause {T = T} {E = E} before now (Ok x)
cause_ok before now x later = record { later = later; failed = tt }

-- an error where the count rose
pub cause_err : {T E : Type 0} (before now : ℕ) (e : E) → before ≤ now → Rose before now → HasCause {T = T} {E = E} before now (Err e)
cause_err before now e later rose = record { later = later; failed = rose }
