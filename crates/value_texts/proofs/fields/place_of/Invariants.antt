use Rattle.std.proofs.Common.{◌≡◌, drop}
use Rattle.texts.specs.Keys.{value_at}
use Rattle.value_texts.proofs.fields.place_of.Given as goal

abbrev pub invariant-loop-at : goal.invariant-loop-at
invariant-loop-at l = value_at l.name (drop l.at l.fields) ≡ value_at l.name l.fields
