-- Values that are kept as they are, where no shape is known, for validation to judge them.
use Rattle.json_doc.specs.declared.doc.Doc.{Doc}
use Rattle.json_doc.specs.declared.doc.Doc.TheOpen.{Doc-F}
use Rattle.json_doc.specs.declared.doc.Doc.TheFolds.{fold-Doc}
use Rattle.shorthand.specs.declared.short.Short.{Short}
use Rattle.shorthand.specs.declared.short.Short.TheOpen.{Short-F}
use Rattle.shorthand.specs.declared.short.Short.TheFolds.{fold-Short}
use Rattle.typed_value.specs.declared.typed.Typed.{Typed}
use Rattle.typed_value.specs.declared.typed.Typed.TheVariants as typed

abbrev pub kept_step : Doc-F Typed → Typed
kept_step Doc-F.Null = typed.Null
kept_step (Doc-F.Flag flag) = typed.Flag flag
kept_step (Doc-F.Number n) = typed.Number n
kept_step (Doc-F.Str t) = typed.Text t
kept_step (Doc-F.Items values) = typed.Items values
kept_step (Doc-F.Fields ps) = typed.Fields ps

-- a document
abbrev pub kept_document : Doc → Typed
kept_document = fold-Doc Typed kept_step

abbrev pub tree_step : Short-F Typed → Typed
tree_step (Short-F.Word t) = typed.Text t
tree_step (Short-F.Items values) = typed.Items values
tree_step (Short-F.Fields ps) = typed.Fields ps

-- a shorthand tree
abbrev pub kept_short : Short → Typed
kept_short = fold-Short Typed tree_step
