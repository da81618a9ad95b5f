use Rattle.std.proofs.Common.{◌≡◌, ◌+◌, ◌*◌, drop}
use Rattle.std.specs.List.{list_any}
use denote.Param.Weighed.{most}
use Rattle.typed_value.specs.declared.typed.Typed.{size-Typed}
use Rattle.typed_value.specs.Fits.{with_values}
use Rattle.value_texts.specs.LostTimes.{item_is_lost, fields_are_lost, is_lost}
use Rattle.value_texts.proofs.lost_times.+losing.Given as goal

abbrev pub decreases-is_lost : goal.decreases-is_lost
decreases-is_lost l = 3 * goal.size-is_lost l

abbrev pub decreases-items_are_lost : goal.decreases-items_are_lost
decreases-items_are_lost l = 3 * goal.size-items_are_lost l + 1

abbrev pub decreases-fields_are_lost : goal.decreases-fields_are_lost
decreases-fields_are_lost l = 3 * most (λ p. size-Typed p.value) l.fields.now + 2

abbrev pub decreases-field_is_lost : goal.decreases-field_is_lost
decreases-field_is_lost l = 3 * size-Typed l.field.now.value + 1

abbrev pub invariant-items_are_lost-loop-value : goal.invariant-items_are_lost-loop-value
invariant-items_are_lost-loop-value l =
    list_any (λ v. item_is_lost l.fn.item (is_lost l.model.shapes l.usual v)) (drop l.value-index l.items)
    ≡ list_any (λ v. item_is_lost l.fn.item (is_lost l.model.shapes l.usual v)) l.items

abbrev pub invariant-fields_are_lost-loop-field : goal.invariant-fields_are_lost-loop-field
invariant-fields_are_lost-loop-field l =
    fields_are_lost l.shape (with_values (is_lost l.model.shapes l.usual) (drop l.field-index l.fields))
    ≡ fields_are_lost l.shape (with_values (is_lost l.model.shapes l.usual) l.fields)
