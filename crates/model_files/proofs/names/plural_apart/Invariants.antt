use Rattle.std.proofs.Common.{◌≡◌, ◌++◌, drop, map}
use Rattle.std.specs.Char.{to_ascii_lowercase}
use Rattle.model_files.specs.Names.{plural_apart}
use Rattle.model_files.proofs.names.plural_apart.Given as goal

abbrev pub invariant-loop-c : goal.invariant-loop-c
invariant-loop-c l = l.made.items ++ map to_ascii_lowercase (drop l.c-index l.c-items) ≡ plural_apart l.chars
