use Rattle.std.proofs.Common.{◌≡◌, ◌++◌, drop}
use Rattle.model_files.specs.Names.{words_apart}
use Rattle.model_files.specs.declared.names.Stage.TheVariants.{Free}
use Rattle.model_files.proofs.names.words_apart.Given as goal

abbrev pub invariant-loop-at : goal.invariant-loop-at
invariant-loop-at l = l.made.items ++ words_apart l.stage (drop l.at l.chars) ≡ words_apart Free l.chars
