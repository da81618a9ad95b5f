-- What a clock in memory holds and goes by.
use Rattle.std.specs.Prelude.{ℤ, pos, if◌then◌else◌, Option, Some, None, List, [], ◌∷◌}
use Rattle.aws_world.specs.Moments.{Moments}
use Rattle.aws_world.specs.declared.mem_clock.MemClock.{MemClock}

-- the moments given and the pauses asked for, where it tells them
abbrev pub moments_told : MemClock → Option Moments
moments_told clock = if clock.tells then Some (record { given = clock.given.items; pauses = clock.pauses.items }) else None

-- the moments still to be given
abbrev pub moments_due : MemClock → List ℤ
moments_due clock = clock.due.items

-- the next of the moments due, 0 where there is none
abbrev pub first_moment : List ℤ → ℤ
first_moment [] = pos 0
first_moment (m ∷ ms) = m

-- the moments due after that one: the last is repeated
abbrev pub later_moments : List ℤ → List ℤ
later_moments [] = []
later_moments (m ∷ []) = m ∷ []
later_moments (m ∷ (n ∷ ms)) = n ∷ ms
