-- What the two layouts have in common.
use Rattle.std.specs.Prelude.{ℕ, Bool, true, false, List, [], ◌∷◌, ◌++◌, codes}
use Rattle.json_doc.specs.declared.doc.Doc.{Doc}
use Rattle.json_doc.specs.declared.layout.Layout.{Layout}
use Rattle.json_doc.specs.declared.layout.Layout.TheVariants.{Compact, Indented}
use Rattle.texts.specs.declared.pairs.Pair.{Pair}
use Rattle.json_doc.specs.Compact.{compact_of}
use Rattle.json_doc.specs.Escapes.{quoted}
use Rattle.texts.specs.Joined.{joined}
use Rattle.json_doc.specs.Indented.{indented_at, line, lines}

-- a document's text at a level
abbrev pub text_at : Layout → ℕ → Doc → List ℕ
text_at Compact level doc = compact_of doc
text_at Indented level doc = indented_at doc level

-- what stands before a part at a level, the first one or another
abbrev pub before_part : Layout → ℕ → Bool → List ℕ
before_part Compact level true = []
before_part Compact level false = codes ", "
before_part Indented level true = line level
before_part Indented level false = 44 ∷ line level

-- what stands behind the parts, where the brackets are at a level
abbrev pub after_parts : Layout → ℕ → Bool → List ℕ
after_parts Compact level is_empty = []
after_parts Indented level true = []
after_parts Indented level false = line level

-- the parts of a list or an object whose brackets are at a level
abbrev pub parts_text : Layout → ℕ → List (List ℕ) → List ℕ
parts_text Compact level ts = joined (codes ", ") ts
parts_text Indented level ts = lines level ts

abbrev pub key_text : Layout → List ℕ → List ℕ
key_text layout key = quoted layout key ++ codes ": "

abbrev pub field_text : Layout → ℕ → Pair Doc → List ℕ
field_text layout level p = key_text layout p.key ++ text_at layout level p.value
