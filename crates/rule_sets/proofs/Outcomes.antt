-- What is read comes, or the first bad place.
use Rattle.std.proofs.Common.{◌≡◌, ℕ, List, inl, inr, refl}
use Rattle.std.specs.Prelude.{◌⊎◌, Ok, Err}
use Rattle.model_files.specs.declared.fault.ModelFault.TheVariants.{Missing, UnknownShape, WrongKind, Collides, OutOfMemory}
use Rattle.model_files.specs.FaultText.{place_text}
use Rattle.rule_sets.specs.declared.fault.RuleFault.TheVariants.{Bad}
use Rattle.rule_sets.specs.BadPlaces.{Judged}
use Rattle.rule_sets.specs.Faults.{read_unless}
use Rattle.rule_sets.proofs.Placed.{IsPlaced}

pub read_outcome : {A : Type 0} (due : Judged) (read : A) → IsPlaced due
    → ((x : A) × (read_unless due read ≡ Ok x)) ⊎ ((place : List ℕ) × (read_unless due read ≡ Err (Bad place)))
read_outcome (Ok x) read placed = inl (read, refl)
read_outcome (Err (Missing place)) read placed = inr (place_text place, refl)
read_outcome (Err (UnknownShape place)) read placed = inr (place_text place, refl)
read_outcome (Err (WrongKind place)) read placed = inr (place_text place, refl)
read_outcome (Err (Collides place)) read placed = inr (place_text place, refl)
read_outcome (Err OutOfMemory) read placed = absurd (cc)
