-- What a clock holds.
use Rattle.std.specs.Prelude.{ℕ, ℤ, List, [], ◌∷◌, ◌++◌}

-- the moments given, in Unix seconds, and the pauses asked for, in milliseconds, oldest first
pub record Moments : Type 0 where
  pub given : List ℤ
  pub pauses : List ℕ

-- one more moment given
abbrev pub with_moment : ℤ → Moments → Moments
with_moment moment before = record before { given = before.given ++ moment ∷ [] }

-- one more pause asked for
abbrev pub with_pause : ℕ → Moments → Moments
with_pause ms before = record before { pauses = before.pauses ++ ms ∷ [] }

-- more moments given and more pauses asked for
abbrev pub with_more : List ℤ → List ℕ → Moments → Moments
with_more moments pauses before = record { given = before.given ++ moments; pauses = before.pauses ++ pauses }
