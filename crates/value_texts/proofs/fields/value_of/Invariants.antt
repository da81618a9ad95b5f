use Rattle.std.proofs.Common.{◌≡◌, drop}
use Rattle.texts.specs.Keys.{value_at}
use Rattle.value_texts.proofs.fields.value_of.Given as goal

abbrev pub invariant-loop-field : goal.invariant-loop-field
invariant-loop-field l = value_at l.name (drop l.field-index l.fields) ≡ value_at l.name l.fields
