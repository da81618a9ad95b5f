-- Texts in JSON.
use Rattle.std.specs.Prelude.{ℕ, List}
use Rattle.json_doc.specs.declared.layout.Layout.TheVariants.{Compact}
use Rattle.json_doc.specs.Escapes.{quoted as escaped}

-- a text in quotation marks, in printable ASCII alone
abbrev pub quoted : List ℕ → List ℕ
quoted text = escaped Compact text
