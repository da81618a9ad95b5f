-- Names with a comma between each two, as far as they are still to be written.
use Rattle.std.proofs.Common.{ℕ, Bool, true, false, List, ◌++◌}
use Rattle.std.specs.Prelude.{codes}
use Rattle.std.specs.List.{flat_map}
use Rattle.service_model.specs.declared.shape.Member.{Member}
use Rattle.texts.specs.Joined.{joined}

abbrev pub name_of : Member → List ℕ
name_of m = m.name

-- what is written of the names from the first on, or behind it
abbrev pub rest_of : Bool → List (List ℕ) → List ℕ
rest_of true names = joined (codes ", ") names
rest_of false names = flat_map (λ name. codes ", " ++ name) names
