use Rattle.std.proofs.Common.{◌≡◌, drop}
use Rattle.std.specs.Prelude.{is_some}
use Rattle.jmes_eval.specs.Answers.{all_of}
use Rattle.jmes_eval.specs.Inside.{seen_values}
use Rattle.jmes_eval.proofs.arguments.are_values.Given as goal

abbrev pub invariant-loop-value : goal.invariant-loop-value
invariant-loop-value l = is_some (all_of (λ x. x) (seen_values (drop l.value-index l.values))) ≡ is_some (all_of (λ x. x) (seen_values l.fn.values))
