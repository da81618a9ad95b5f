use Rattle.std.proofs.Common.{◌≡◌, drop}
use Rattle.std.specs.Str.{chars}
use Rattle.texts.specs.Keys.{value_at}
use Rattle.texts.proofs.pairs.Pairs.find.Given as goal

-- none of the pairs so far has the key
abbrev pub invariant-loop-pair : goal.invariant-loop-pair
invariant-loop-pair g l = value_at (chars l.key) (drop l.pair-index l.pair-items) ≡ value_at (chars l.key) l.fn.self
