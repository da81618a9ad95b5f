use Rattle.std.proofs.Common.{◌≡◌, ◌+◌, ◌*◌, ◌++◌, true, drop, map}
use Rattle.std.specs.List.{AllByRecursion}
use denote.Param.Weighed.{most}
use Rattle.json_doc.specs.declared.doc.Doc.{size-Doc}
use Rattle.json_doc.specs.Documents.{IsProper, IsProperField}
use Rattle.json_doc.specs.Layouts.{text_at, field_text}
use Rattle.json_doc.proofs.Layouts.{rest_of_parts}
use Rattle.json_doc.proofs.printer.+printer.Given as goal

abbrev pub decreases-write_doc : goal.decreases-write_doc
decreases-write_doc l = 2 * goal.size-write_doc l

abbrev pub decreases-write_items : goal.decreases-write_items
decreases-write_items l = 2 * goal.size-write_items l + 1

abbrev pub decreases-write_fields : goal.decreases-write_fields
decreases-write_fields l = 2 * most (λ p. size-Doc p.value) l.fields.now + 1

abbrev pub invariant-write_items-loop-item : goal.invariant-write_items-loop-item
invariant-write_items-loop-item l =
    (l.out ++ rest_of_parts l.layout l.inside l.is_first (map (text_at l.layout l.inside) (drop l.item-index l.items))
    ≡ l.fn.out ++ rest_of_parts l.layout l.inside true (map (text_at l.layout l.inside) l.fn.items))
    × (AllByRecursion IsProper (drop l.item-index l.items) → AllByRecursion IsProper l.items)

abbrev pub invariant-write_fields-loop-field : goal.invariant-write_fields-loop-field
invariant-write_fields-loop-field l =
    (l.out ++ rest_of_parts l.layout l.inside l.is_first (map (field_text l.layout l.inside) (drop l.field-index l.fields))
    ≡ l.fn.out ++ rest_of_parts l.layout l.inside true (map (field_text l.layout l.inside) l.fn.fields))
    × (AllByRecursion IsProperField (drop l.field-index l.fields) → AllByRecursion IsProperField l.fields)
