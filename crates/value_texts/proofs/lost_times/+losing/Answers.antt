use Rattle.std.proofs.Common.{sym, ap, ◌∙◌}
use Rattle.std.specs.List.{list_any}
use Rattle.value_texts.specs.LostTimes.{item_is_lost, is_lost}
use Rattle.value_texts.proofs.LostParts.{any-none, lost-Items}
use Rattle.value_texts.proofs.lost_times.+losing.Goals as goal

pub is_lost-returns-in-Items : goal.is_lost-returns-in-Items
is_lost-returns-in-Items t c =
    let lost = is_lost c.args.model.now.shapes c.args.usual in
    let shape = c.in-Some.shape.now in
    let items = c.in-Items.items in
    rw c.in-Items.is (c.items_are_lost.ensures ∙ ap (list_any (λ v. item_is_lost shape.item (lost v))) c.as_slice.ensures
    ∙ sym (lost-Items c.args.model.now.shapes c.args.usual c.args.slot shape c.in-Some.ensures items))

pub items_are_lost-returns-in_default : goal.items_are_lost-returns-in_default
items_are_lost-returns-in_default t c = rw c.in_default.is (sym (any-none c.args.items.now))
