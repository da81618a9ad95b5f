use Rattle.std.proofs.Common.{◌≡◌, [], drop}
use Rattle.json_doc.specs.Gathered.{pairs_of}
use Rattle.jmes_eval.specs.Many.{merged_after}
use Rattle.jmes_eval.specs.Inside.{seen_values}
use Rattle.jmes_eval.proofs.merging.merge.Given as goal

abbrev pub invariant-loop-value : goal.invariant-loop-value
invariant-loop-value l = merged_after (pairs_of l.made.entries) (seen_values (drop l.value-index l.values)) ≡ merged_after [] (seen_values l.fn.values)
