-- The moments that messages are signed at.
use Rattle.std.specs.Prelude.{ℤ, pos, ◌≤ℤ◌}

-- the seconds since 1970 up to the end of the year 9999
pub record IsMoment (now : ℤ) : Type 0 where
  pub from_1970 : pos 0 ≤ℤ now
  pub to_9999 : now ≤ℤ pos 253402300799
