use Rattle.std.proofs.Common.{◌+◌, ◌*◌, take, map}
use denote.Param.Weighed.{most}
use Rattle.typed_value.specs.declared.typed.Typed.{size-Typed}
use Rattle.typed_value.specs.Inside.{AddsNodes}
use Rattle.typed_value.proofs.flat.+laying.Given as goal

abbrev pub decreases-lay : goal.decreases-lay
decreases-lay l = 3 * goal.size-lay l + 2

abbrev pub decreases-lay_parts : goal.decreases-lay_parts
decreases-lay_parts l = 3 * goal.size-lay_parts l + 1

abbrev pub decreases-lay_items : goal.decreases-lay_items
decreases-lay_items l = 3 * goal.size-lay_items l + 3

abbrev pub decreases-lay_fields : goal.decreases-lay_fields
decreases-lay_fields l = 3 * most (λ p. size-Typed p.value) l.fields.now + 3

abbrev pub invariant-lay_items-loop-item : goal.invariant-lay_items-loop-item
invariant-lay_items-loop-item l = AddsNodes l.fn.nodes.items (take l.item-index l.items) l.nodes.items

abbrev pub invariant-lay_fields-loop-field : goal.invariant-lay_fields-loop-field
invariant-lay_fields-loop-field l = AddsNodes l.fn.nodes.items (take l.field-index (map (λ p. p.value) l.fields)) l.nodes.items
