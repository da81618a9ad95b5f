use Rattle.std.proofs.Common.{◌≡◌, drop}
use Rattle.texts.specs.Keys.{value_at}
use Rattle.jmes_eval.proofs.equality.value_far.Given as goal

-- what the key has among those left it has among all
abbrev pub invariant-loop-at : goal.invariant-loop-at
invariant-loop-at l = value_at l.key (drop l.at l.field-items) ≡ value_at l.fn.key l.fn.fields
