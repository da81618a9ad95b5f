use Rattle.std.proofs.Common.{◌≡◌, ◌≤◌, take}
use Rattle.model_files.specs.Names.{capitals_start}
use Rattle.model_files.proofs.names.capitals_start.Given as goal

abbrev pub invariant-loop-at : goal.invariant-loop-at
invariant-loop-at l = (l.start ≡ capitals_start (take l.at l.chars)) × (l.start ≤ l.at)
