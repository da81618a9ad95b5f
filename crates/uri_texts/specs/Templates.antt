-- Templates: texts with labels in braces, as `requestUri` and `hostPrefix` of botocore's models have them.
use Rattle.std.specs.Prelude.{ℕ, true, false, List, [], ◌∷◌, flat_map, None, Some}
use Rattle.texts.specs.Cut.{cut, is_among}
use Rattle.texts.specs.Marks.{around_first, without_last}
use Rattle.uri_texts.specs.declared.templates.Piece.{Piece}
use Rattle.uri_texts.specs.declared.templates.Piece.TheVariants.{Plain, Label}

-- a label by what stands in its braces: one with a `+` at its end is greedy
abbrev pub label : List ℕ → Piece
label name = elim (without_last 43 name) [ Some front ↦ Label front true | None ↦ Label name false ]

-- what stands behind a brace that opens, up to the next one: a label and text, or text where no brace closes
abbrev pub pieces_behind : List ℕ → List Piece
pieces_behind part = elim (around_first 125 part) [
  | Some halves ↦ label halves.0 ∷ Plain halves.1 ∷ []
  | None ↦ Plain (123 ∷ part) ∷ []
]

abbrev pub pieces_between : List (List ℕ) → List Piece
pieces_between [] = []
pieces_between (text ∷ parts) = Plain text ∷ flat_map pieces_behind parts

-- the text before the first brace, and what stands behind each
abbrev pub pieces : List ℕ → List Piece
pieces template = pieces_between (cut (is_among (123 ∷ [])) template)
