use Rattle.std.proofs.Common.{◌≡◌, ◌++◌, drop}
use Rattle.std.specs.Prelude.{option_map}
use Rattle.jmes_eval.specs.Answers.{all_of}
use Rattle.jmes_eval.specs.Kinds.{number_of}
use Rattle.jmes_eval.proofs.numbers.numbers.Given as goal

abbrev pub invariant-loop-item : goal.invariant-loop-item
invariant-loop-item l = option_map (λ ns. l.numbers.items ++ ns) (all_of number_of (drop l.item-index l.items)) ≡ all_of number_of l.fn.items
