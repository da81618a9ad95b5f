use Rattle.std.proofs.Common.{◌≡◌, ◌+◌, ◌*◌, drop, map, length}
use Rattle.std.specs.List.{list_all}
use denote.Param.Weighed.{most}
use Rattle.json_doc.specs.declared.doc.Doc.{size-Doc}
use Rattle.jmes_eval.specs.Equality.{same, each_same, has_doc_field}
use Rattle.jmes_eval.proofs.equality.+equality.Given as goal

abbrev pub decreases-same : goal.decreases-same
decreases-same l = 2 * goal.size-same l

abbrev pub decreases-same_items : goal.decreases-same_items
decreases-same_items l = 2 * goal.size-same_items l + 1

abbrev pub decreases-same_fields : goal.decreases-same_fields
decreases-same_fields l = 2 * most (λ p. size-Doc p.value) l.a.now + 1

abbrev pub invariant-same_items-loop-at : goal.invariant-same_items-loop-at
invariant-same_items-loop-at l = (each_same (map same (drop l.at l.a)) (drop l.at l.b) ≡ each_same (map same l.fn.a) l.fn.b) × (length l.a ≡ length l.b)

abbrev pub invariant-same_fields-loop-pair : goal.invariant-same_fields-loop-pair
invariant-same_fields-loop-pair l = list_all (has_doc_field l.b) (drop l.pair-index l.a) ≡ list_all (has_doc_field l.fn.b) l.fn.a
