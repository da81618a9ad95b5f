use Rattle.std.proofs.Common.{◌≡◌, ◌++◌, drop}
use Rattle.model_files.proofs.characters.text_of.Given as goal

abbrev pub invariant-loop-c : goal.invariant-loop-c
invariant-loop-c l = l.text ++ drop l.c-index l.chars ≡ l.chars
