use Rattle.std.proofs.Common.{◌≡◌, map, take}
use Rattle.json_doc.specs.declared.doc.Doc as doc
use Rattle.texts.specs.Blanks.{trimmed}
use Rattle.resp_parser.proofs.headers.parts.Given as goal

abbrev pub invariant-loop-part : goal.invariant-loop-part
invariant-loop-part l = l.made ≡ map (λ part. doc.Str (trimmed part)) (take l.part-index l.part-items)
