use Rattle.std.proofs.Common.{◌+◌, ◌∷◌, [], ◌++◌, Ok, Err, drop, map, sym, ap, subst, ◌∙◌}
use Rattle.std.specs.Option.{option_copied}
use Rattle.texts.specs.Calls.{◌>>=◌}
use Rattle.texts.specs.Keys.{keys, IsDistinct}
use Rattle.typed_value.specs.declared.typed.Typed.TheVariants as typed
use Rattle.typed_value.specs.Fits.{with_values}
use Rattle.typed_value.specs.Places.{member_named}
use Rattle.shape_values.specs.Faults.{to_item, to_name, under, each_from, each_field, field}
use Rattle.shape_values.specs.JsonValues.{meant, document_value, item_value, member_value, items_value, fields_value}
use Rattle.shape_values.specs.Inside.{list_due}
use Rattle.shape_values.specs.Kept.{kept_document}
use Rattle.shape_values.proofs.Each.{Comes, with_front, comes-under, fails-through, from-fails, from-done, field-goes, field-fails, field-done}
use Rattle.shape_values.proofs.Fielded.{key-new, key-more}
use Rattle.shape_values.proofs.JsonLayers.{same, no-shape, takes-any, kind-Items, kind-Fields}
use Rattle.shape_values.proofs.JsonParts.{item_of, entry_of, member_of, items-whole, entries-whole, members-whole}
use Rattle.shape_values.proofs.json_values.+reading.Goals as goal

pub items_value-returns-in-Err : goal.items_value-returns-in-Err
items_value-returns-in-Err t c = λ instants tells.
    let shapes = c.args.model.now.shapes in
    let docs = c.args.items.now in
    let f = item_of instants shapes c.args.item in
    let i = c.loop-at.at in
    let d = c.index-items-at.result in
    let fault = c.in-Err.fault in
    let part = comes-under (to_item i) (f d) c.item_value-value.result (Err fault) (c.item_value-value.ensures instants tells) c.in-Err.ensures in
    fails-through fault (under (to_item i) (f d)) (items_value c.args.item (map (meant instants shapes) docs))
    (λ e. items-whole instants shapes c.args.item docs ∙ ap (λ r. r >>= (λ vs. Ok (typed.Items vs)))
    (from-fails f docs i d fault c.loop-at.made (each_from f 0 docs) c.loop-at-test.true c.index-items-at.is e (c.loop-at.invariant instants tells))) part

pub items_value-returns : goal.items_value-returns
items_value-returns t c = λ instants tells.
    let shapes = c.args.model.now.shapes in
    let docs = c.args.items.now in
    let f = item_of instants shapes c.args.item in
    items-whole instants shapes c.args.item docs ∙ ap (λ r. r >>= (λ vs. Ok (typed.Items vs)))
    (from-done f docs c.loop-at.at c.loop-at.made (each_from f 0 docs) c.loop-at-test.false (c.loop-at.invariant instants tells))

pub item_value-returns-in_ok-kept_document-in-None : goal.item_value-returns-in_ok-kept_document-in-None
item_value-returns-in_ok-kept_document-in-None t c = λ instants tells.
    let shapes = c.args.model.now.shapes in
    let d = c.args.doc.now in
    ap (λ o. item_value o (meant instants shapes d)) c.in-None.is ∙ ap (λ x. Ok (kept_document x)) (same instants shapes d) ∙ ap Ok (sym c.in_ok-kept_document-in-None.ensures)

pub member_value-returns-in_ok-kept_document-in-None : goal.member_value-returns-in_ok-kept_document-in-None
member_value-returns-in_ok-kept_document-in-None t c = λ instants tells.
    let shapes = c.args.model.now.shapes in
    let d = c.args.doc.now in
    ap (λ o. member_value (option_copied o) (meant instants shapes d)) c.in-None.is ∙ ap (λ x. Ok (kept_document x)) (same instants shapes d)
    ∙ ap Ok (sym c.in_ok-kept_document-in-None.ensures)

pub entries_value-returns-in-Err : goal.entries_value-returns-in-Err
entries_value-returns-in-Err t c = λ instants tells.
    let shapes = c.args.model.now.shapes in
    let fields = c.as_slice-field-items.result.now in
    let f = entry_of instants shapes c.args.item in
    let p = c.field-item.result in
    let fault = c.in-Err.fault in
    let part = comes-under (to_name p.key) (f p) c.item_value-value.result (Err fault) (c.item_value-value.ensures instants tells) c.in-Err.ensures in
    fails-through fault (under (to_name p.key) (f p)) (fields_value (λ q. item_value c.args.item q.value) (with_values (meant instants shapes) c.args.fields.now))
    (λ e. ap (λ ps. fields_value (λ q. item_value c.args.item q.value) (with_values (meant instants shapes) ps)) (sym c.as_slice-field-items.ensures.same)
    ∙ entries-whole instants shapes c.args.item fields ∙ ap (λ r. r >>= (λ qs. Ok (typed.Fields qs)))
    (field-fails f fields c.loop-field.field-index p fault c.loop-field.made (each_field f fields) c.loop-field-test.true c.field-item.is e (c.loop-field.invariant.made instants tells))) part

pub entries_value-push_new-requires : goal.entries_value-push_new-requires
entries_value-push_new-requires t c =
    let fields = c.as_slice-field-items.result.now in
    let distinct : IsDistinct (keys fields) = rw c.as_slice-field-items.ensures.same c.as_slice-field-items.ensures.distinct in
    let new = key-new fields c.loop-field.made c.loop-field.field-index c.field-item.result c.loop-field-test.true c.field-item.is c.loop-field.invariant.keyed distinct in
    rw c.in_ok-copy-in-Ok.ensures new

pub entries_value-loop-field-preserved : goal.entries_value-loop-field-preserved
entries_value-loop-field-preserved t c =
    let shapes = c.args.model.now.shapes in
    let fields = c.as_slice-field-items.result.now in
    let made = c.loop-field.made in
    let i = c.loop-field.field-index in
    let p = c.field-item.result in
    let v = c.in-Ok.value in
    let pushed = c.in_ok-push_new-in-Ok.ensures.ok ∙ ap (λ k. made ++ field k v ∷ []) c.in_ok-copy-in-Ok.ensures in
    record {
      made = λ instants tells.
          let f = entry_of instants shapes c.args.item in
          let gives = comes-under (to_name p.key) (f p) c.item_value-value.result (Ok v) (c.item_value-value.ensures instants tells) c.in-Ok.ensures in
          ap (λ xs. with_front xs (each_field f (drop (i + 1) fields))) pushed
          ∙ field-goes f fields i p v made (each_field f fields) c.loop-field-test.true c.field-item.is gives (c.loop-field.invariant.made instants tells);
      keyed = ap keys pushed ∙ key-more fields made i p c.loop-field-test.true c.field-item.is c.loop-field.invariant.keyed v;
    }

pub entries_value-returns : goal.entries_value-returns
entries_value-returns t c = λ instants tells.
    let shapes = c.args.model.now.shapes in
    let fields = c.as_slice-field-items.result.now in
    let f = entry_of instants shapes c.args.item in
    ap (λ ps. fields_value (λ q. item_value c.args.item q.value) (with_values (meant instants shapes) ps)) (sym c.as_slice-field-items.ensures.same)
    ∙ entries-whole instants shapes c.args.item fields ∙ ap (λ r. r >>= (λ qs. Ok (typed.Fields qs)))
    (field-done f fields c.loop-field.field-index c.loop-field.made (each_field f fields) c.loop-field-test.false (c.loop-field.invariant.made instants tells))

pub members_value-returns-in-Err : goal.members_value-returns-in-Err
members_value-returns-in-Err t c = λ instants tells.
    let shapes = c.args.model.now.shapes in
    let fields = c.as_slice-field-items.result.now in
    let f = member_of instants shapes c.args.shape.now.members in
    let p = c.field-item.result in
    let fault = c.in-Err.fault in
    let member = c.member_named-member.ensures ∙ ap (member_named p.key) c.as_slice.ensures in
    let due = subst (λ o. Comes c.member_value-value.result (member_value o (meant instants shapes p.value))) member (c.member_value-value.ensures instants tells) in
    let part = comes-under (to_name p.key) (f p) c.member_value-value.result (Err fault) due c.in-Err.ensures in
    fails-through fault (under (to_name p.key) (f p)) (fields_value (λ q. member_value (member_named q.key c.args.shape.now.members) q.value) (with_values (meant instants shapes) c.args.fields.now))
    (λ e. ap (λ ps. fields_value (λ q. member_value (member_named q.key c.args.shape.now.members) q.value) (with_values (meant instants shapes) ps)) (sym c.as_slice-field-items.ensures.same)
    ∙ members-whole instants shapes c.args.shape.now.members fields ∙ ap (λ r. r >>= (λ qs. Ok (typed.Fields qs)))
    (field-fails f fields c.loop-field.field-index p fault c.loop-field.made (each_field f fields) c.loop-field-test.true c.field-item.is e (c.loop-field.invariant.made instants tells))) part

pub members_value-push_new-requires : goal.members_value-push_new-requires
members_value-push_new-requires t c =
    let fields = c.as_slice-field-items.result.now in
    let distinct : IsDistinct (keys fields) = rw c.as_slice-field-items.ensures.same c.as_slice-field-items.ensures.distinct in
    let new = key-new fields c.loop-field.made c.loop-field.field-index c.field-item.result c.loop-field-test.true c.field-item.is c.loop-field.invariant.keyed distinct in
    rw c.in_ok-copy-in-Ok.ensures new

pub members_value-loop-field-preserved : goal.members_value-loop-field-preserved
members_value-loop-field-preserved t c =
    let shapes = c.args.model.now.shapes in
    let fields = c.as_slice-field-items.result.now in
    let made = c.loop-field.made in
    let i = c.loop-field.field-index in
    let p = c.field-item.result in
    let v = c.in-Ok.value in
    let pushed = c.in_ok-push_new-in-Ok.ensures.ok ∙ ap (λ k. made ++ field k v ∷ []) c.in_ok-copy-in-Ok.ensures in
    record {
      made = λ instants tells.
          let f = member_of instants shapes c.args.shape.now.members in
          let member = c.member_named-member.ensures ∙ ap (member_named p.key) c.as_slice.ensures in
          let due = subst (λ o. Comes c.member_value-value.result (member_value o (meant instants shapes p.value))) member (c.member_value-value.ensures instants tells) in
          let gives = comes-under (to_name p.key) (f p) c.member_value-value.result (Ok v) due c.in-Ok.ensures in
          ap (λ xs. with_front xs (each_field f (drop (i + 1) fields))) pushed
          ∙ field-goes f fields i p v made (each_field f fields) c.loop-field-test.true c.field-item.is gives (c.loop-field.invariant.made instants tells);
      keyed = ap keys pushed ∙ key-more fields made i p c.loop-field-test.true c.field-item.is c.loop-field.invariant.keyed v;
    }

pub members_value-returns : goal.members_value-returns
members_value-returns t c = λ instants tells.
    let shapes = c.args.model.now.shapes in
    let fields = c.as_slice-field-items.result.now in
    let f = member_of instants shapes c.args.shape.now.members in
    ap (λ ps. fields_value (λ q. member_value (member_named q.key c.args.shape.now.members) q.value) (with_values (meant instants shapes) ps)) (sym c.as_slice-field-items.ensures.same)
    ∙ members-whole instants shapes c.args.shape.now.members fields ∙ ap (λ r. r >>= (λ qs. Ok (typed.Fields qs)))
    (field-done f fields c.loop-field.field-index c.loop-field.made (each_field f fields) c.loop-field-test.false (c.loop-field.invariant.made instants tells))

pub value_of_document-returns-in_default : goal.value_of_document-returns-in_default
value_of_document-returns-in_default t c = λ instants tells.
    no-shape instants c.args.model.now.shapes c.args.place c.args.doc.now c.in_default.ensures ∙ ap Ok (sym c.in_ok-kept_document.ensures)

pub value_of_document-returns-then-takes_json : goal.value_of_document-returns-then-takes_json
value_of_document-returns-then-takes_json t c = λ instants tells.
    takes-any instants c.args.model.now.shapes c.args.place c.in-Some.shape.now c.in-Some.ensures c.args.doc.now (sym c.takes_json.ensures ∙ c.if-takes_json.true)
    ∙ ap (λ x. Ok (typed.Any x)) (sym c.in_ok-copy.ensures)

pub value_of_document-returns-in-Items : goal.value_of_document-returns-in-Items
value_of_document-returns-in-Items t c = λ instants tells.
    let shapes = c.args.model.now.shapes in
    let shape = c.in-Some.shape.now in
    let due = ap (document_value instants shapes c.args.place) c.in-Items.is
    ∙ kind-Items instants shapes c.args.place shape c.in-Some.ensures (sym c.takes_json.ensures ∙ c.if-takes_json.false) (sym c.is_float.ensures ∙ c.if-is_float.false) c.in-Items.items
    ∙ ap (list_due instants shapes shape) (sym c.as_slice.ensures) in
    subst (Comes c.list_value.result) (sym due) (c.list_value.ensures instants tells)

pub value_of_document-returns-in-Fields : goal.value_of_document-returns-in-Fields
value_of_document-returns-in-Fields t c = λ instants tells.
    let shapes = c.args.model.now.shapes in
    let due = ap (document_value instants shapes c.args.place) c.in-Fields.is
    ∙ kind-Fields instants shapes c.args.place c.in-Some.shape.now c.in-Some.ensures (sym c.takes_json.ensures ∙ c.if-takes_json.false) (sym c.is_float.ensures ∙ c.if-is_float.false) c.in-Fields.fields in
    subst (Comes c.object_value.result) (sym due) (c.object_value.ensures instants tells)
