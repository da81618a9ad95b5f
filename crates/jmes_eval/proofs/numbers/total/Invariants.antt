use Rattle.std.proofs.Common.{◌≡◌, drop, Some}
use Rattle.std.specs.Prelude.{fold}
use Rattle.jmes_eval.specs.Numbers.{added, total_of}
use Rattle.jmes_eval.proofs.numbers.total.Given as goal

abbrev pub invariant-loop-n : goal.invariant-loop-n
invariant-loop-n l = fold added (Some l.total) (drop l.n-index l.numbers) ≡ total_of l.fn.numbers
