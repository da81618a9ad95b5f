-- A document on one line without blanks: RFC 8259's grammar with none between the tokens.
use Rattle.std.specs.Prelude.{ℕ, List, [], ◌∷◌, ◌++◌, map, codes}
use Rattle.json_doc.specs.Compact.{flag_text}
use Rattle.json_doc.specs.DecimalText.{decimal_text}
use Rattle.json_doc.specs.declared.doc.Doc.{Doc}
use Rattle.json_doc.specs.declared.doc.Doc.TheOpen.{Doc-F}
use Rattle.json_doc.specs.declared.doc.Doc.TheFolds.{fold-Doc}
use Rattle.texts.specs.Joined.{joined}
use Rattle.texts.specs.declared.pairs.Pair.{Pair}
use Rattle.value_texts.specs.Quoted.{quoted}

abbrev pub dense_field : Pair (List ℕ) → List ℕ
dense_field p = quoted p.key ++ codes ":" ++ p.value

-- the text of a value, given the texts of its items or of its fields
abbrev pub dense_step : Doc-F (List ℕ) → List ℕ
dense_step Doc-F.Null = codes "null"
dense_step (Doc-F.Flag flag) = flag_text flag
dense_step (Doc-F.Number n) = decimal_text n
dense_step (Doc-F.Str t) = quoted t
dense_step (Doc-F.Items ts) = 91 ∷ joined (codes ",") ts ++ 93 ∷ []
dense_step (Doc-F.Fields ps) = 123 ∷ joined (codes ",") (map dense_field ps) ++ 125 ∷ []

abbrev pub dense_of : Doc → List ℕ
dense_of = fold-Doc (List ℕ) dense_step
