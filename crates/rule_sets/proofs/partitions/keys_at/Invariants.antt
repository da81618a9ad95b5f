use Rattle.std.proofs.Common.{◌≡◌, ◌++◌, drop}
use Rattle.texts.specs.Keys.{keys}
use Rattle.rule_sets.proofs.partitions.keys_at.Given as goal

-- the keys so far, and those of the rest
abbrev pub invariant-loop-field : goal.invariant-loop-field
invariant-loop-field l = l.keys ++ keys (drop l.field-index l.field-items) ≡ keys l.field-items
