-- Texts joined one after another.
use Rattle.std.proofs.Common.{ℕ, Bool, true, false, List, ◌++◌}
use Rattle.std.specs.List.{flat_map}
use Rattle.texts.specs.Joined.{joined}

-- the parts that are left, the first one or others
abbrev pub rest_of_join : List ℕ → Bool → List (List ℕ) → List ℕ
rest_of_join separator true ts = joined separator ts
rest_of_join separator false ts = flat_map (λ u. separator ++ u) ts
