use Rattle.std.proofs.Common.{◌<◌, map, length, refl, ◌-◌, sym, ap, subst, ◌∙◌}
use Rattle.std.proofs.lemmas.List.{length-map, get_or-map}
use Rattle.typed_value.specs.declared.typed.Typed.{out-Typed}
use Rattle.typed_value.specs.Inside.{AddsNodes}
use Rattle.typed_value.specs.Tables.{parts_in}
use Rattle.typed_value.proofs.Tables.{adds-next, adds-own}
use Rattle.typed_value.proofs.flat.+laying.Goals as goal

pub lay-returns : goal.lay-returns
lay-returns t c =
    let old = c.args.nodes.now in
    let made = c.lay_parts.new.nodes in
    let v = c.args.value.now in
    let laid = subst (λ ns. AddsNodes ns (parts_in (out-Typed v)) made.items) c.in_ok-push.ensures.items c.in_ok-lay_parts.ensures in
    let place = c.len-at.ensures ∙ old.ok.0 in
    adds-own old.items made.items (record { value = c.args.value; below = 0 }) (record { value = c.args.value; below = c.len.result - c.len-at.result - 1 }) v c.len-at.result
    laid place refl (ap (λ n. n - c.len-at.result - 1) (c.len.ensures ∙ made.ok.0))

pub lay_items-loop-item-preserved : goal.lay_items-loop-item-preserved
lay_items-loop-item-preserved t c =
    adds-next c.args.nodes.now.items c.loop-item.nodes.items c.lay.new.nodes.items c.args.items.now c.loop-item.item-index c.item-item.result
    c.loop-item-test.true c.item-item.is c.loop-item.invariant c.in_ok-lay.ensures

pub lay_fields-loop-field-preserved : goal.lay_fields-loop-field-preserved
lay_fields-loop-field-preserved t c =
    let fields = c.args.fields.now in
    let values = map (λ p. p.value) fields in
    let at = c.loop-field.field-index in
    let field = c.field-item.result in
    let within : at < length values = rw length-map c.loop-field-test.true in
    let is = ap (λ p. p.value) c.field-item.is ∙ sym (get_or-map (λ p. p.value) fields at field field.value c.loop-field-test.true) in
    adds-next c.args.nodes.now.items c.loop-field.nodes.items c.lay.new.nodes.items values at field.value within is c.loop-field.invariant c.in_ok-lay.ensures
