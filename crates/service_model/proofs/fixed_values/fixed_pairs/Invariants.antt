use Rattle.std.proofs.Common.{◌≡◌, drop}
use Rattle.model_files.proofs.Each.{with_front}
use Rattle.model_files.specs.Faults.{each}
use Rattle.service_model.specs.Operations.{fixed_value}
use Rattle.service_model.proofs.fixed_values.fixed_pairs.Given as goal

-- with the parameters so far in front, what the pairs left give is what all give
abbrev pub invariant-loop-pair : goal.invariant-loop-pair
invariant-loop-pair l = with_front l.params (each fixed_value (drop l.pair-index l.pair-items)) ≡ each fixed_value l.fn.pairs
