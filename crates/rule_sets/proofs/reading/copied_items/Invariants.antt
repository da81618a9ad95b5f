use Rattle.std.proofs.Common.{◌≡◌, ◌++◌, drop}
use Rattle.rule_sets.proofs.reading.copied_items.Given as goal

-- the copies so far, and the rest
abbrev pub invariant-loop-doc : goal.invariant-loop-doc
invariant-loop-doc l = l.made ++ drop l.doc-index l.docs ≡ l.docs
