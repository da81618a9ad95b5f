use Rattle.std.proofs.Common.{◌≡◌, ◌++◌, drop}
use Rattle.jmes_eval.specs.Inside.{looked}
use Rattle.jmes_eval.proofs.lists.copies.Given as goal

abbrev pub invariant-loop-place : goal.invariant-loop-place
invariant-loop-place l = l.made ++ looked (drop l.place-index l.places) ≡ looked l.fn.places
