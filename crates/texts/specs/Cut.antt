-- Texts cut into their parts.
use Rattle.std.specs.Prelude.{ℕ, zero, suc, Bool, nat_eq, List, [], ◌∷◌, None, Some}
use Rattle.std.specs.List.{list_any, slice_split}
use Rattle.texts.specs.Marks.{around_first}

abbrev pub is_among : List ℕ → ℕ → Bool
is_among marks c = list_any (λ mark. nat_eq mark c) marks

-- the parts of a text between marks
abbrev pub cut : (ℕ → Bool) → List ℕ → List (List ℕ)
cut is_mark text = slice_split is_mark text

-- the parts of a text, cut at so many of the first marks
abbrev pub cut_times : ℕ → ℕ → List ℕ → List (List ℕ)
cut_times mark zero text = text ∷ []
cut_times mark (suc times) text = elim (around_first mark text) [
  | Some halves ↦ halves.0 ∷ cut_times mark times halves.1
  | None ↦ text ∷ []
]
