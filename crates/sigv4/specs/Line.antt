-- Lines of the texts that are signed.
use Rattle.std.specs.Prelude.{ℕ, List, [], ◌∷◌, ◌++◌}

-- a text with its line end
abbrev pub line : List ℕ → List ℕ
line text = text ++ 10 ∷ []
