use Rattle.std.proofs.Common.{◌≡◌, length}
use Rattle.std.specs.Iterator.Adapters.{zip_first, zip_second}
use Rattle.std.specs.Slice.Iter.{iter_rest}
use Rattle.rule_terms.specs.Patterns.{all_fit}
use Rattle.rule_terms.proofs.pattern.all_fit.Given as goal

-- the words left are as many as the parts left, and fit as all do
abbrev pub invariant-loop-part : goal.invariant-loop-part
invariant-loop-part l =
    (length (iter_rest (zip_first l.part-iterator)) ≡ length (iter_rest (zip_second l.part-iterator)))
    × (all_fit (iter_rest (zip_first l.part-iterator)) (iter_rest (zip_second l.part-iterator)) ≡ all_fit l.fn.pattern l.fn.words)
