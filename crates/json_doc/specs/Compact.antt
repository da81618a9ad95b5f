-- A document on one line: RFC 8259's grammar with one blank behind each `,` and `:`.
use Rattle.std.specs.Prelude.{ℕ, Bool, if◌then◌else◌, List, [], ◌∷◌, ◌++◌, map, codes}
use Rattle.json_doc.specs.declared.doc.Doc.{Doc}
use Rattle.json_doc.specs.declared.doc.Doc.TheOpen.{Doc-F}
use Rattle.json_doc.specs.declared.doc.Doc.TheFolds.{fold-Doc}
use Rattle.json_doc.specs.declared.layout.Layout.TheVariants.{Compact}
use Rattle.texts.specs.declared.pairs.Pair.{Pair}
use Rattle.json_doc.specs.DecimalText.{decimal_text}
use Rattle.json_doc.specs.Escapes.{quoted}
use Rattle.texts.specs.Joined.{joined}

abbrev pub flag_text : Bool → List ℕ
flag_text flag = if flag then codes "true" else codes "false"

abbrev pub compact_field : Pair (List ℕ) → List ℕ
compact_field p = quoted Compact p.key ++ codes ": " ++ p.value

-- the text of a value, given the texts of its items or of its fields
abbrev pub compact_step : Doc-F (List ℕ) → List ℕ
compact_step Doc-F.Null = codes "null"
compact_step (Doc-F.Flag flag) = flag_text flag
compact_step (Doc-F.Number n) = decimal_text n
compact_step (Doc-F.Str t) = quoted Compact t
compact_step (Doc-F.Items ts) = 91 ∷ joined (codes ", ") ts ++ 93 ∷ []
compact_step (Doc-F.Fields ps) = 123 ∷ joined (codes ", ") (map compact_field ps) ++ 125 ∷ []

abbrev pub compact_of : Doc → List ℕ
compact_of = fold-Doc (List ℕ) compact_step
