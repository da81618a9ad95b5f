use Rattle.std.proofs.Common.{◌+◌, ◌*◌}
use denote.Param.Weighed.{most}
use Rattle.typed_value.specs.declared.typed.Typed.{size-Typed}
use Rattle.model_rows.proofs.values.+writing.Given as goal

abbrev pub decreases-written : goal.decreases-written
decreases-written l = 2 * goal.size-written l

abbrev pub decreases-written_fields : goal.decreases-written_fields
decreases-written_fields l = 2 * most (λ p. size-Typed p.value) l.fields.now + 1
