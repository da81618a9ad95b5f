-- Texts around marks.
use Rattle.std.specs.Prelude.{ℕ, nat_eq, if◌then◌else◌, List, [], ◌∷◌, Option, None, Some, option_map}

-- what stands before and behind the first of these marks
abbrev pub around_first : ℕ → List ℕ → Option (List ℕ × List ℕ)
around_first mark [] = None
around_first mark (c ∷ cs) =
    if nat_eq c mark then Some ([], cs) else option_map (λ halves. (c ∷ halves.0, halves.1)) (around_first mark cs)

-- a text without the mark at its start
abbrev pub without_first : ℕ → List ℕ → Option (List ℕ)
without_first mark [] = None
without_first mark (c ∷ cs) = if nat_eq c mark then Some cs else None

-- a text without the mark at its end
abbrev pub without_last : ℕ → List ℕ → Option (List ℕ)
without_last mark [] = None
without_last mark (c ∷ []) = if nat_eq c mark then Some [] else None
without_last mark (c ∷ d ∷ ds) = option_map (λ front. c ∷ front) (without_last mark (d ∷ ds))
