-- What is told of a document from its parts: the parts themselves, and what is told of each.
use Rattle.std.specs.Prelude.{map}
use Rattle.json_doc.specs.declared.doc.Doc.{Doc}
use Rattle.json_doc.specs.declared.doc.Doc.TheVariants as doc
use Rattle.json_doc.specs.declared.doc.Doc.TheOpen.{Doc-F}
use Rattle.json_doc.specs.declared.doc.Doc.TheFolds.{fold-Doc}
use Rattle.texts.specs.declared.pairs.Pair.{Pair}

-- a part, and what is told of it
pub record Told (A : Type 0) : Type 0 where
  pub part : Doc
  pub tale : A

abbrev pub pair_of_part : {A : Type 0} → Pair (Told A) → Pair Doc
pair_of_part p = record { key = p.key; value = p.value.part }

-- the document of these parts
abbrev pub whole_of : {A : Type 0} → Doc-F (Told A) → Doc
whole_of Doc-F.Null = doc.Null
whole_of (Doc-F.Flag b) = doc.Flag b
whole_of (Doc-F.Number n) = doc.Number n
whole_of (Doc-F.Str t) = doc.Str t
whole_of (Doc-F.Items ts) = doc.Items (map (λ t. t.part) ts)
whole_of (Doc-F.Fields ps) = doc.Fields (map pair_of_part ps)

abbrev pub told_step : {A : Type 0} → (Doc-F (Told A) → A) → Doc-F (Told A) → Told A
told_step tell parts = record { part = whole_of parts; tale = tell parts }

abbrev pub told : {A : Type 0} → (Doc-F (Told A) → A) → Doc → Told A
told {A} tell = fold-Doc (Told A) (told_step tell)

abbrev pub tale_of : {A : Type 0} → (Doc-F (Told A) → A) → Doc → A
tale_of tell doc = (told tell doc).tale
