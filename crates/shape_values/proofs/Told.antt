-- A function that gives each time its instant.
use Rattle.std.proofs.Common.{ℕ, ◌⊎◌, inl, inr, List, Option, None, Some, ℤ}
use Rattle.std.specs.Prelude.{MatchOption}
use Rattle.moments.specs.Times.{IsTime}
use Rattle.shape_values.specs.Instants.{Instants, TellsTimes}

abbrev IsTold : List ℕ → Type 0
IsTold bytes = ((t : ℤ) × IsTime bytes t) ⊎ ((t : ℤ) → IsTime bytes t → ⊥)

abbrev option_of : {bytes : List ℕ} → IsTold bytes → Option ℤ
option_of (inl found) = Some found.0
option_of (inr none) = None

tells : {bytes : List ℕ} (told : IsTold bytes) → MatchOption (option_of told) ((t : ℤ) → IsTime bytes t → ⊥) (IsTime bytes)
tells (inl found) = found.1
tells (inr none) = none

pub instants_of : ((bytes : List ℕ) → IsTold bytes) → (instants : Instants) × TellsTimes instants
instants_of told = (λ bytes. option_of (told bytes), λ bytes. tells (told bytes))
