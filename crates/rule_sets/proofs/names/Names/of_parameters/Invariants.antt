use Rattle.std.proofs.Common.{◌≡◌, ◌++◌, drop}
use Rattle.texts.specs.Keys.{keys}
use Rattle.rule_sets.proofs.names.Names.of_parameters.Given as goal

-- the names so far, and the rest
abbrev pub invariant-loop-field : goal.invariant-loop-field
invariant-loop-field l = l.names.items ++ keys (drop l.field-index l.field-items) ≡ keys l.field-items
