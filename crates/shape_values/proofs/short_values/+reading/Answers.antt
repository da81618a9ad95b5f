use Rattle.std.proofs.Common.{◌+◌, ◌∷◌, [], ◌++◌, Ok, Err, drop, map, sym, ap, subst, ◌∙◌}
use Rattle.std.specs.Option.{option_copied}
use Rattle.texts.specs.Calls.{◌>>=◌}
use Rattle.texts.specs.Keys.{keys, IsDistinct}
use Rattle.shorthand.specs.declared.short.Short.TheOpen.{Short-F}
use Rattle.typed_value.specs.declared.typed.Typed.TheVariants as typed
use Rattle.typed_value.specs.Fits.{with_values}
use Rattle.typed_value.specs.Places.{member_named}
use Rattle.shape_values.specs.Faults.{to_item, to_name, under, each_from, each_field, field}
use Rattle.shape_values.specs.ShortValues.{meant, item_value, member_value, fields_value, elements_value, list_of_one, one_value, layer, single_at, short_value}
use Rattle.shape_values.proofs.Each.{Comes, with_front, comes-under, fails-through, from-fails, from-done, field-goes, field-fails, field-done}
use Rattle.shape_values.proofs.Fielded.{key-new, key-more}
use Rattle.shape_values.proofs.ShortLayers.{kept-same, layer-kept, no-shape, tree-due, items-due, word-due, fields-due}
use Rattle.shape_values.proofs.ShortParts.{item_of, entry_of, member_of, items-whole, entries-whole, members-whole}
use Rattle.shape_values.proofs.short_values.+reading.Goals as goal

pub items_value-returns-in-Err : goal.items_value-returns-in-Err
items_value-returns-in-Err t c = λ instants tells.
    let shapes = c.args.model.now.shapes in
    let docs = c.args.items.now in
    let f = item_of instants shapes c.args.item in
    let i = c.loop-at.at in
    let d = c.index-items-at.result in
    let fault = c.in-Err.fault in
    let part = comes-under (to_item i) (f d) c.item_value-value.result (Err fault) (c.item_value-value.ensures instants tells) c.in-Err.ensures in
    fails-through fault (under (to_item i) (f d)) (elements_value instants shapes c.args.item (Short-F.Items (map (meant instants shapes) docs)))
    (λ e. items-whole instants shapes c.args.item docs ∙ ap (λ r. r >>= (λ vs. Ok (typed.Items vs)))
    (from-fails f docs i d fault c.loop-at.made (each_from f 0 docs) c.loop-at-test.true c.index-items-at.is e (c.loop-at.invariant instants tells))) part

pub items_value-returns : goal.items_value-returns
items_value-returns t c = λ instants tells.
    let shapes = c.args.model.now.shapes in
    let docs = c.args.items.now in
    let f = item_of instants shapes c.args.item in
    items-whole instants shapes c.args.item docs ∙ ap (λ r. r >>= (λ vs. Ok (typed.Items vs)))
    (from-done f docs c.loop-at.at c.loop-at.made (each_from f 0 docs) c.loop-at-test.false (c.loop-at.invariant instants tells))

pub item_value-returns-in_ok-kept_short-in-None : goal.item_value-returns-in_ok-kept_short-in-None
item_value-returns-in_ok-kept_short-in-None t c = λ instants tells.
    let shapes = c.args.model.now.shapes in
    let d = c.args.tree.now in
    ap (λ o. item_value o (meant instants shapes d)) c.in-None.is ∙ ap Ok (kept-same instants shapes d) ∙ ap Ok (sym c.in_ok-kept_short-in-None.ensures)

pub member_value-returns-in_ok-kept_short-in-None : goal.member_value-returns-in_ok-kept_short-in-None
member_value-returns-in_ok-kept_short-in-None t c = λ instants tells.
    let shapes = c.args.model.now.shapes in
    let d = c.args.tree.now in
    ap (λ o. member_value (option_copied o) (meant instants shapes d)) c.in-None.is ∙ ap Ok (kept-same instants shapes d)
    ∙ ap Ok (sym c.in_ok-kept_short-in-None.ensures)

pub entries_value-returns-in-Err : goal.entries_value-returns-in-Err
entries_value-returns-in-Err t c = λ instants tells.
    let shapes = c.args.model.now.shapes in
    let fields = c.as_slice-field-items.result.now in
    let f = entry_of instants shapes c.args.item in
    let p = c.field-item.result in
    let fault = c.in-Err.fault in
    let part = comes-under (to_name p.key) (f p) c.item_value-value.result (Err fault) (c.item_value-value.ensures instants tells) c.in-Err.ensures in
    fails-through fault (under (to_name p.key) (f p)) (fields_value (λ q. item_value c.args.item q.value) (with_values (meant instants shapes) c.args.fields.now))
    (λ e. ap (λ ps. fields_value (λ q. item_value c.args.item q.value) (with_values (meant instants shapes) ps)) (sym c.as_slice-field-items.ensures.same)
    ∙ entries-whole instants shapes c.args.item fields ∙ ap (λ r. r >>= (λ qs. Ok (typed.Fields qs)))
    (field-fails f fields c.loop-field.field-index p fault c.loop-field.made (each_field f fields) c.loop-field-test.true c.field-item.is e (c.loop-field.invariant.made instants tells))) part

pub entries_value-push_new-requires : goal.entries_value-push_new-requires
entries_value-push_new-requires t c =
    let fields = c.as_slice-field-items.result.now in
    let distinct : IsDistinct (keys fields) = rw c.as_slice-field-items.ensures.same c.as_slice-field-items.ensures.distinct in
    let new = key-new fields c.loop-field.made c.loop-field.field-index c.field-item.result c.loop-field-test.true c.field-item.is c.loop-field.invariant.keyed distinct in
    rw c.in_ok-copy-in-Ok.ensures new

pub entries_value-loop-field-preserved : goal.entries_value-loop-field-preserved
entries_value-loop-field-preserved t c =
    let shapes = c.args.model.now.shapes in
    let fields = c.as_slice-field-items.result.now in
    let made = c.loop-field.made in
    let i = c.loop-field.field-index in
    let p = c.field-item.result in
    let v = c.in-Ok.value in
    let pushed = c.in_ok-push_new-in-Ok.ensures.ok ∙ ap (λ k. made ++ field k v ∷ []) c.in_ok-copy-in-Ok.ensures in
    record {
      made = λ instants tells.
          let f = entry_of instants shapes c.args.item in
          let gives = comes-under (to_name p.key) (f p) c.item_value-value.result (Ok v) (c.item_value-value.ensures instants tells) c.in-Ok.ensures in
          ap (λ xs. with_front xs (each_field f (drop (i + 1) fields))) pushed
          ∙ field-goes f fields i p v made (each_field f fields) c.loop-field-test.true c.field-item.is gives (c.loop-field.invariant.made instants tells);
      keyed = ap keys pushed ∙ key-more fields made i p c.loop-field-test.true c.field-item.is c.loop-field.invariant.keyed v;
    }

pub entries_value-returns : goal.entries_value-returns
entries_value-returns t c = λ instants tells.
    let shapes = c.args.model.now.shapes in
    let fields = c.as_slice-field-items.result.now in
    let f = entry_of instants shapes c.args.item in
    ap (λ ps. fields_value (λ q. item_value c.args.item q.value) (with_values (meant instants shapes) ps)) (sym c.as_slice-field-items.ensures.same)
    ∙ entries-whole instants shapes c.args.item fields ∙ ap (λ r. r >>= (λ qs. Ok (typed.Fields qs)))
    (field-done f fields c.loop-field.field-index c.loop-field.made (each_field f fields) c.loop-field-test.false (c.loop-field.invariant.made instants tells))

pub members_value-returns-in-Err : goal.members_value-returns-in-Err
members_value-returns-in-Err t c = λ instants tells.
    let shapes = c.args.model.now.shapes in
    let fields = c.as_slice-field-items.result.now in
    let f = member_of instants shapes c.args.shape.now.members in
    let p = c.field-item.result in
    let fault = c.in-Err.fault in
    let member = c.member_named-member.ensures ∙ ap (member_named p.key) c.as_slice.ensures in
    let due = subst (λ o. Comes c.member_value-value.result (member_value o (meant instants shapes p.value))) member (c.member_value-value.ensures instants tells) in
    let part = comes-under (to_name p.key) (f p) c.member_value-value.result (Err fault) due c.in-Err.ensures in
    fails-through fault (under (to_name p.key) (f p)) (fields_value (λ q. member_value (member_named q.key c.args.shape.now.members) q.value) (with_values (meant instants shapes) c.args.fields.now))
    (λ e. ap (λ ps. fields_value (λ q. member_value (member_named q.key c.args.shape.now.members) q.value) (with_values (meant instants shapes) ps)) (sym c.as_slice-field-items.ensures.same)
    ∙ members-whole instants shapes c.args.shape.now.members fields ∙ ap (λ r. r >>= (λ qs. Ok (typed.Fields qs)))
    (field-fails f fields c.loop-field.field-index p fault c.loop-field.made (each_field f fields) c.loop-field-test.true c.field-item.is e (c.loop-field.invariant.made instants tells))) part

pub members_value-push_new-requires : goal.members_value-push_new-requires
members_value-push_new-requires t c =
    let fields = c.as_slice-field-items.result.now in
    let distinct : IsDistinct (keys fields) = rw c.as_slice-field-items.ensures.same c.as_slice-field-items.ensures.distinct in
    let new = key-new fields c.loop-field.made c.loop-field.field-index c.field-item.result c.loop-field-test.true c.field-item.is c.loop-field.invariant.keyed distinct in
    rw c.in_ok-copy-in-Ok.ensures new

pub members_value-loop-field-preserved : goal.members_value-loop-field-preserved
members_value-loop-field-preserved t c =
    let shapes = c.args.model.now.shapes in
    let fields = c.as_slice-field-items.result.now in
    let made = c.loop-field.made in
    let i = c.loop-field.field-index in
    let p = c.field-item.result in
    let v = c.in-Ok.value in
    let pushed = c.in_ok-push_new-in-Ok.ensures.ok ∙ ap (λ k. made ++ field k v ∷ []) c.in_ok-copy-in-Ok.ensures in
    record {
      made = λ instants tells.
          let f = member_of instants shapes c.args.shape.now.members in
          let member = c.member_named-member.ensures ∙ ap (member_named p.key) c.as_slice.ensures in
          let due = subst (λ o. Comes c.member_value-value.result (member_value o (meant instants shapes p.value))) member (c.member_value-value.ensures instants tells) in
          let gives = comes-under (to_name p.key) (f p) c.member_value-value.result (Ok v) due c.in-Ok.ensures in
          ap (λ xs. with_front xs (each_field f (drop (i + 1) fields))) pushed
          ∙ field-goes f fields i p v made (each_field f fields) c.loop-field-test.true c.field-item.is gives (c.loop-field.invariant.made instants tells);
      keyed = ap keys pushed ∙ key-more fields made i p c.loop-field-test.true c.field-item.is c.loop-field.invariant.keyed v;
    }

pub members_value-returns : goal.members_value-returns
members_value-returns t c = λ instants tells.
    let shapes = c.args.model.now.shapes in
    let fields = c.as_slice-field-items.result.now in
    let f = member_of instants shapes c.args.shape.now.members in
    ap (λ ps. fields_value (λ q. member_value (member_named q.key c.args.shape.now.members) q.value) (with_values (meant instants shapes) ps)) (sym c.as_slice-field-items.ensures.same)
    ∙ members-whole instants shapes c.args.shape.now.members fields ∙ ap (λ r. r >>= (λ qs. Ok (typed.Fields qs)))
    (field-done f fields c.loop-field.field-index c.loop-field.made (each_field f fields) c.loop-field-test.false (c.loop-field.invariant.made instants tells))

pub one_value-returns-in_ok-kept_short-in-None : goal.one_value-returns-in_ok-kept_short-in-None
one_value-returns-in_ok-kept_short-in-None t c = λ instants tells.
    let shapes = c.args.model.now.shapes in
    ap (one_value instants shapes (layer instants shapes c.args.tree.now)) c.in-None.is ∙ ap Ok (layer-kept instants shapes c.args.tree.now) ∙ ap Ok (sym c.in_ok-kept_short-in-None.ensures)

pub list_of_one-returns-in-Err : goal.list_of_one-returns-in-Err
list_of_one-returns-in-Err t c = λ instants tells.
    let shapes = c.args.model.now.shapes in
    let due = one_value instants shapes (layer instants shapes c.args.tree.now) c.args.item in
    let fault = c.in-Err.fault in
    let part = comes-under (to_item 0) due c.one_value-value.result (Err fault) (c.one_value-value.ensures instants tells) c.in-Err.ensures in
    fails-through fault (under (to_item 0) due) (list_of_one due) (λ e. ap (λ r. r >>= (λ v. Ok (typed.Items (v ∷ [])))) e) part

pub list_of_one-returns-in_ok-only-in-Ok : goal.list_of_one-returns-in_ok-only-in-Ok
list_of_one-returns-in_ok-only-in-Ok t c = λ instants tells.
    let shapes = c.args.model.now.shapes in
    let due = one_value instants shapes (layer instants shapes c.args.tree.now) c.args.item in
    let part = comes-under (to_item 0) due c.one_value-value.result (Ok c.in-Ok.value) (c.one_value-value.ensures instants tells) c.in-Ok.ensures in
    ap (λ r. r >>= (λ v. Ok (typed.Items (v ∷ [])))) part ∙ ap (λ vs. Ok (typed.Items vs)) (sym c.in_ok-only-in-Ok.ensures)

pub single_value-returns-in_default : goal.single_value-returns-in_default
single_value-returns-in_default t c = λ instants tells.
    let shapes = c.args.model.now.shapes in
    let tree = c.args.tree.now in
    ap (single_at instants (layer instants shapes tree) c.args.place) (sym c.in_default.ensures) ∙ ap Ok (layer-kept instants shapes tree) ∙ ap Ok (sym c.in_ok-kept_short.ensures)

pub value_of_short-returns-in_default : goal.value_of_short-returns-in_default
value_of_short-returns-in_default t c = λ instants tells.
    no-shape instants c.args.model.now.shapes c.args.place c.args.tree.now c.in_default.ensures ∙ ap Ok (sym c.in_ok-kept_short.ensures)

pub value_of_short-returns-then-not-is_list : goal.value_of_short-returns-then-not-is_list
value_of_short-returns-then-not-is_list t c = λ instants tells.
    let due = tree-due instants c.args.model.now.shapes c.args.place c.in-Some.shape.now c.in-Some.ensures (sym c.takes_json.ensures ∙ c.if-takes_json.false) c.args.tree.now
    (sym c.is_list.ensures ∙ c.if-not-is_list.true) in
    subst (Comes c.tree_value.result) (sym due) (c.tree_value.ensures instants tells)

pub value_of_short-returns-in-Items : goal.value_of_short-returns-in-Items
value_of_short-returns-in-Items t c = λ instants tells.
    let shapes = c.args.model.now.shapes in
    let item = c.in-Some.shape.now.item in
    let due = ap (short_value instants shapes c.args.place) c.in-Items.is
    ∙ items-due instants shapes c.args.place c.in-Some.shape.now c.in-Some.ensures (sym c.takes_json.ensures ∙ c.if-takes_json.false) (sym c.is_list.ensures ∙ c.if-not-is_list.false)
    (sym c.holds_lists.ensures ∙ c.if-holds_lists.false) c.in-Items.items
    ∙ ap (λ trees. elements_value instants shapes item (Short-F.Items (map (meant instants shapes) trees))) (sym c.as_slice.ensures) in
    subst (Comes c.items_value.result) (sym due) (c.items_value.ensures instants tells)

pub value_of_short-returns-in-Word : goal.value_of_short-returns-in-Word
value_of_short-returns-in-Word t c = λ instants tells.
    let shapes = c.args.model.now.shapes in
    let item = c.in-Some.shape.now.item in
    let due = ap (short_value instants shapes c.args.place) c.in-Word.is
    ∙ word-due instants shapes c.args.place c.in-Some.shape.now c.in-Some.ensures (sym c.takes_json.ensures ∙ c.if-takes_json.false) (sym c.is_list.ensures ∙ c.if-not-is_list.false)
    (sym c.holds_lists.ensures ∙ c.if-holds_lists.false) c.in-Word.field-0
    ∙ ap (λ tree. list_of_one (one_value instants shapes (layer instants shapes tree) item)) (sym c.in-Word.is) in
    subst (Comes c.list_of_one.result) (sym due) (c.list_of_one.ensures instants tells)

pub value_of_short-returns-in-Fields : goal.value_of_short-returns-in-Fields
value_of_short-returns-in-Fields t c = λ instants tells.
    let shapes = c.args.model.now.shapes in
    let item = c.in-Some.shape.now.item in
    let due = ap (short_value instants shapes c.args.place) c.in-Fields.is
    ∙ fields-due instants shapes c.args.place c.in-Some.shape.now c.in-Some.ensures (sym c.takes_json.ensures ∙ c.if-takes_json.false) (sym c.is_list.ensures ∙ c.if-not-is_list.false)
    (sym c.holds_lists.ensures ∙ c.if-holds_lists.false) c.in-Fields.field-0
    ∙ ap (λ tree. list_of_one (one_value instants shapes (layer instants shapes tree) item)) (sym c.in-Fields.is) in
    subst (Comes c.list_of_one-in-Fields.result) (sym due) (c.list_of_one-in-Fields.ensures instants tells)
