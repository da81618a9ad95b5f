use Rattle.std.proofs.Common.{◌≡◌, map}
use Rattle.json_doc.specs.declared.doc.Doc.TheVariants as doc
use Rattle.endpoint_rules.proofs.arn.words_of.Given as goal

abbrev pub invariant-loop-word : goal.invariant-loop-word
invariant-loop-word l = l.items ≡ map doc.Str l.yielded
