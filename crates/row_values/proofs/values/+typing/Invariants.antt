use Rattle.std.proofs.Common.{◌+◌, ◌*◌}
use denote.Param.Weighed.{most}
use Rattle.json_doc.specs.declared.doc.Doc.{size-Doc}
use Rattle.row_values.proofs.values.+typing.Given as goal

abbrev pub decreases-typed : goal.decreases-typed
decreases-typed l = 2 * goal.size-typed l

abbrev pub decreases-typed_fields : goal.decreases-typed_fields
decreases-typed_fields l = 2 * most (λ p. size-Doc p.value) l.fields.now + 1
