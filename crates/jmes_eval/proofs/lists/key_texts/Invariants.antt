use Rattle.std.proofs.Common.{◌≡◌, ◌++◌, drop, map}
use Rattle.json_doc.specs.declared.doc.Doc.TheVariants.{Str}
use Rattle.texts.specs.Keys.{keys}
use Rattle.jmes_eval.proofs.lists.key_texts.Given as goal

abbrev pub invariant-loop-field : goal.invariant-loop-field
invariant-loop-field l = l.made ++ map Str (keys (drop l.field-index l.fields)) ≡ map Str (keys l.fn.fields)
