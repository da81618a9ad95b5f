use Rattle.std.proofs.Common.{take}
use Rattle.std.specs.Prelude.{All}
use Rattle.texts.specs.Order.{IsBefore}
use Rattle.texts.proofs.order.place_of.Given as goal

-- the texts so far come before the new one
abbrev pub invariant-loop-at : goal.invariant-loop-at
invariant-loop-at l = All (λ other. IsBefore other l.text) (take l.at l.texts)
