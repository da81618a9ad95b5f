-- The instant that a time has is the one that it tells.
use Rattle.std.proofs.Common.{◌≡◌, ℕ, ℤ, List, Option, None, Some, ap}
use Rattle.std.specs.Prelude.{MatchOption}
use Rattle.moments.specs.Times.{IsTime}

pub instant_is : ((bytes : List ℕ) (a b : ℤ) → IsTime bytes a → IsTime bytes b → a ≡ b)
    → (found : Option ℤ) (bytes : List ℕ) (t : ℤ) → IsTime bytes t → MatchOption found ((s : ℤ) → IsTime bytes s → ⊥) (IsTime bytes) → found ≡ Some t
instant_is one None bytes t is told = absurd (told t is)
instant_is one (Some s) bytes t is told = ap Some (one bytes s t told is)
