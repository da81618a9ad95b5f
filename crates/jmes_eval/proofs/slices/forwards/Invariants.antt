use Rattle.std.proofs.Common.{◌≡◌, ◌++◌, length}
use Rattle.jmes_eval.specs.Inside.{seen_all}
use Rattle.jmes_eval.specs.Slices.{every}
use Rattle.jmes_eval.proofs.slices.forwards.Given as goal

abbrev pub invariant-elements : goal.invariant-elements
invariant-elements l = seen_all l.made.items ++ every l.fn.step 0 l.rest ≡ every l.fn.step 0 l.fn.items

abbrev pub decreases-elements : goal.decreases-elements
decreases-elements l = length l.rest
