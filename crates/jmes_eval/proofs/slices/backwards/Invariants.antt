use Rattle.std.proofs.Common.{◌≡◌, ◌++◌, length}
use Rattle.std.specs.Prelude.{reverse}
use Rattle.jmes_eval.specs.Inside.{seen_all}
use Rattle.jmes_eval.specs.Slices.{every}
use Rattle.jmes_eval.proofs.slices.backwards.Given as goal

abbrev pub invariant-elements : goal.invariant-elements
invariant-elements l = seen_all l.made.items ++ every l.fn.step 0 (reverse l.rest) ≡ every l.fn.step 0 (reverse l.fn.items)

abbrev pub decreases-elements : goal.decreases-elements
decreases-elements l = length l.rest
