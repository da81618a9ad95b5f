use Rattle.std.proofs.Common.{◌+◌, ◌*◌}
use denote.Param.Weighed.{most}
use Rattle.shorthand.specs.declared.short.Short.{size-Short}
use Rattle.argument_rows.proofs.arguments.+document.Given as goal

abbrev pub decreases-document_of : goal.decreases-document_of
decreases-document_of l = 2 * goal.size-document_of l

abbrev pub decreases-items_of : goal.decreases-items_of
decreases-items_of l = 2 * most size-Short l.items.now + 1

abbrev pub decreases-fields_of : goal.decreases-fields_of
decreases-fields_of l = 2 * most (λ p. size-Short p.value) l.fields.now + 1
