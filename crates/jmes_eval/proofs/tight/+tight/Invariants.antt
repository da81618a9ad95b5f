use Rattle.std.proofs.Common.{◌≡◌, ◌+◌, ◌*◌, ◌++◌, true, [], ◌∷◌, drop, map}
use denote.Param.Weighed.{most}
use Rattle.json_doc.specs.declared.doc.Doc.{size-Doc}
use Rattle.jmes_eval.specs.Texts.{tight_of, tight_pair}
use Rattle.jmes_eval.proofs.Joins.{rest_of_join}
use Rattle.jmes_eval.proofs.tight.+tight.Given as goal

abbrev pub decreases-write_doc : goal.decreases-write_doc
decreases-write_doc l = 2 * goal.size-write_doc l

abbrev pub decreases-write_items : goal.decreases-write_items
decreases-write_items l = 2 * goal.size-write_items l + 1

abbrev pub decreases-write_fields : goal.decreases-write_fields
decreases-write_fields l = 2 * most (λ p. size-Doc p.value) l.fields.now + 1

abbrev pub invariant-write_items-loop-item : goal.invariant-write_items-loop-item
invariant-write_items-loop-item l =
    l.out ++ rest_of_join (44 ∷ []) l.is_first (map tight_of (drop l.item-index l.items)) ≡ l.fn.out ++ rest_of_join (44 ∷ []) true (map tight_of l.fn.items)

abbrev pub invariant-write_fields-loop-field : goal.invariant-write_fields-loop-field
invariant-write_fields-loop-field l =
    l.out ++ rest_of_join (44 ∷ []) l.is_first (map tight_pair (drop l.field-index l.fields)) ≡ l.fn.out ++ rest_of_join (44 ∷ []) true (map tight_pair l.fn.fields)
