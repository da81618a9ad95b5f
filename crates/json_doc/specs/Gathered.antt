-- The fields of an object that is being read, as pairs.
use Rattle.std.specs.Prelude.{ℕ, List, map}
use Rattle.json_doc.specs.declared.doc.Doc.{Doc}
use Rattle.texts.specs.declared.pairs.Pair.{Pair}
use Rattle.json_doc.specs.declared.read_fields.Gathered.{Gathered}
use Rattle.json_doc.specs.declared.read_fields.Gathered.TheVariants.{Few, Many}

abbrev pub pairs_of : List (List ℕ × Doc) → List (Pair Doc)
pairs_of es = map (λ e. record { key = e.0; value = e.1 }) es

abbrev pub kept : Gathered → List (Pair Doc)
kept (Few pairs) = pairs
kept (Many table) = pairs_of table.entries
