use Rattle.std.proofs.Common.{◌≡◌, ◌++◌, drop}
use Rattle.model_files.specs.Names.{capitals_apart}
use Rattle.model_files.proofs.names.capitals_apart.Given as goal

abbrev pub invariant-loop-at : goal.invariant-loop-at
invariant-loop-at l = l.made.items ++ capitals_apart (drop l.at l.chars) ≡ capitals_apart l.chars
