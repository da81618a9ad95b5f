-- The instants of times, as a function that is known only by what is told of it.
use Rattle.std.specs.Prelude.{ℕ, ℤ, List, Option, MatchOption}
use Rattle.moments.specs.Times.{IsTime}

-- the instant of a text's bytes, in microseconds since 1970, where it is a time
abbrev pub Instants : Type 0
Instants = List ℕ → Option ℤ

-- each time has its instant, and nothing else has one
abbrev pub TellsTimes : Instants → Type 0
TellsTimes instants = (bytes : List ℕ) → MatchOption (instants bytes) ((t : ℤ) → IsTime bytes t → ⊥) (IsTime bytes)
