use Rattle.std.proofs.Common.{◌≡◌, ◌++◌, drop, map}
use Rattle.jmes_eval.specs.Inside.{entries_of}
use Rattle.jmes_eval.proofs.keys.in_order.Given as goal

abbrev pub invariant-loop-entry : goal.invariant-loop-entry
invariant-loop-entry l = l.made ++ map (λ p. p.1) (entries_of (drop l.entry-index l.entries)) ≡ map (λ p. p.1) (entries_of l.fn.entries)
