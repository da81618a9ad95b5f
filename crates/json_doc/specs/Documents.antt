-- Documents as trees: how deep they nest (RFC 8259, section 9: a reader may limit it), and what their
-- types keep of each value in them.
use Rattle.std.specs.Prelude.{ℕ, ◌+◌, max, List, [], ◌∷◌, map}
use Rattle.std.specs.List.{AllByRecursion}
use Rattle.json_doc.specs.declared.doc.Doc.{Doc}
use Rattle.json_doc.specs.declared.doc.Doc.TheOpen.{Doc-F}
use Rattle.json_doc.specs.declared.doc.Doc.TheFolds.{fold-Doc, every-Doc}
use Rattle.texts.specs.declared.pairs.Pair.{Pair}
use Rattle.texts.specs.Characters.{IsText}
use Rattle.texts.specs.Keys.{keys, IsDistinct}

-- the greatest of these; of none, 0
abbrev pub greatest : List ℕ → ℕ
greatest [] = 0
greatest (n ∷ ns) = max n (greatest ns)

-- the depth of a value, given the depths of its items or of its fields
abbrev pub depth_step : Doc-F ℕ → ℕ
depth_step (Doc-F.Items ns) = greatest ns + 1
depth_step (Doc-F.Fields ps) = greatest (map (λ p. p.value) ps) + 1
depth_step others = 0

-- how many arrays and objects stand in one another
abbrev pub depth_of : Doc → ℕ
depth_of = fold-Doc ℕ depth_step

-- what a value is by its type: its text or its keys are texts, and no key stands twice (section 4)
abbrev pub IsProperValue : Doc-F Doc → Type 0
IsProperValue (Doc-F.Str t) = IsText t
IsProperValue (Doc-F.Fields ps) = AllByRecursion IsText (keys ps) × IsDistinct (keys ps)
IsProperValue others = Unit {0}

-- so is each value in the document
abbrev pub IsProper : Doc → Type 0
IsProper = every-Doc IsProperValue

-- a field with such a key and such a value
abbrev pub IsProperField : Pair Doc → Type 0
IsProperField p = IsText p.key × IsProper p.value
