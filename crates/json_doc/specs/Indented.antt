-- A document with each item on a line of its own, four blanks a level.
use Rattle.std.specs.Prelude.{ℕ, ◌+◌, ◌*◌, List, [], ◌∷◌, ◌++◌, map, codes, replicate}
use Rattle.json_doc.specs.declared.doc.Doc.{Doc}
use Rattle.json_doc.specs.declared.doc.Doc.TheOpen.{Doc-F}
use Rattle.json_doc.specs.declared.doc.Doc.TheFolds.{fold-Doc}
use Rattle.json_doc.specs.declared.layout.Layout.TheVariants.{Indented}
use Rattle.texts.specs.declared.pairs.Pair.{Pair}
use Rattle.json_doc.specs.Compact.{flag_text}
use Rattle.json_doc.specs.DecimalText.{decimal_text}
use Rattle.json_doc.specs.Escapes.{quoted}
use Rattle.texts.specs.Joined.{joined}

-- a new line with the blanks of this level
abbrev pub line : ℕ → List ℕ
line level = 10 ∷ replicate (4 * level) 32

-- each part on a line of its own, one level deeper than the brackets round them
abbrev pub lines : ℕ → List (List ℕ) → List ℕ
lines level [] = []
lines level (t ∷ ts) = line (level + 1) ++ joined (44 ∷ line (level + 1)) (t ∷ ts) ++ line level

abbrev pub indented_field : ℕ → Pair (ℕ → List ℕ) → List ℕ
indented_field level p = quoted Indented p.key ++ codes ": " ++ p.value level

-- the text of a value at a level, given the texts of its items or of its fields at each level
abbrev pub indented_step : Doc-F (ℕ → List ℕ) → ℕ → List ℕ
indented_step Doc-F.Null level = codes "null"
indented_step (Doc-F.Flag flag) level = flag_text flag
indented_step (Doc-F.Number n) level = decimal_text n
indented_step (Doc-F.Str t) level = quoted Indented t
indented_step (Doc-F.Items ts) level = 91 ∷ lines level (map (λ t. t (level + 1)) ts) ++ 93 ∷ []
indented_step (Doc-F.Fields ps) level = 123 ∷ lines level (map (indented_field (level + 1)) ps) ++ 125 ∷ []

abbrev pub indented_at : Doc → ℕ → List ℕ
indented_at = fold-Doc (ℕ → List ℕ) indented_step

abbrev pub indented_of : Doc → List ℕ
indented_of doc = indented_at doc 0
