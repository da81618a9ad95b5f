use Rattle.std.proofs.Common.{rules, ◌<◌, ◌++◌, length, map, get_or, sym, ap, subst, ◌∙◌}
use Rattle.std.specs.Prelude.{codes}
use Rattle.std.proofs.lemmas.List.{get_or_default}
use Rattle.texts.specs.Joined.{joined}
use Rattle.typed_value.specs.Fits.{with_values}
use Rattle.json_doc.specs.Compact.{compact_of}
use Rattle.value_texts.specs.Documents.{document_of, fields_of}
use Rattle.value_texts.specs.Inside.{key_text, field_text, fields_text, items_text, no_field, spot_field}
use Rattle.value_texts.proofs.JsonParts.{item_text, entry_text, entries-all, spot_text, twice, compact-Null, value-Items, value-Fields}
use Rattle.json_doc.proofs.Layouts.{bracketed}
use Rattle.value_texts.proofs.Marking.{behind_nothing, next_text, all_put, two}
use Rattle.value_texts.proofs.writing.+writing.Goals as goal

pub push_value-returns-in_ok-push_items-in-Items : goal.push_value-returns-in_ok-push_items-in-Items
push_value-returns-in_ok-push_items-in-Items t c =
    let shapes = c.args.model.now.shapes in
    let shape = c.in-Some.shape.now in
    let items = c.in-Items.items in
    let texts = map (item_text shapes shape.item) items in
    let parts = c.in_ok-push_items-in-Items.ensures ∙ ap (λ vs. c.push.new.self ++ items_text (map (item_text shapes shape.item) vs)) c.as_slice.ensures in
    let whole = bracketed c.args.out.now c.push.new.self c.push_items.new.out (items_text texts) 91 93 c.in_ok-push-in-Items.ensures.ok parts in
    rw (c.in-Items.is, value-Items shapes c.args.slot shape c.in-Some.ensures items) (rw whole at c.push-in-Items.ensures.ok)

pub push_value-returns-in_ok-push_fields-in-Fields : goal.push_value-returns-in_ok-push_fields-in-Fields
push_value-returns-in_ok-push_fields-in-Fields t c =
    let shapes = c.args.model.now.shapes in
    let shape = c.in-Some.shape.now in
    let fields = c.in-Fields.fields in
    let text = fields_text (fields_of shape (with_values (document_of shapes) fields)) in
    let parts = c.in_ok-push_fields-in-Fields.ensures ∙ ap (λ ps. c.push-in-Fields.new.self ++ fields_text (fields_of shape (with_values (document_of shapes) ps))) c.as_slice-in-Fields.ensures.same in
    let whole = bracketed c.args.out.now c.push-in-Fields.new.self c.push_fields.new.out text 123 125 c.in_ok-push-in-Fields.ensures.ok parts in
    rw (c.in-Fields.is, value-Fields shapes c.args.slot shape c.in-Some.ensures fields) (rw whole at c.push-in-Fields-2.ensures.ok)

pub push_item-returns-in-None : goal.push_item-returns-in-None
push_item-returns-in-None t c = rw (c.in-None.is, compact-Null) c.push_ascii.ensures.ok

pub push_items-loop-value-init : goal.push_items-loop-value-init
push_items-loop-value-init t c = record {
  text = search rules;
  plain = search rules;
  due = ap (λ s. c.args.out.now ++ s) (behind_nothing (codes ", ") (map (item_text c.args.model.now.shapes c.args.item) c.args.items.now));
}

pub push_items-loop-value-preserved : goal.push_items-loop-value-preserved
push_items-loop-value-preserved t c =
    let f = item_text c.args.model.now.shapes c.args.item in
    let value = c.value-item.result in
    let put = c.in_ok-push_item.ensures ∙ ap (λ s. s ++ f value) c.in_ok-push_ascii.ensures.ok in
    record {
      text = search rules;
      plain = search rules;
      due = next_text f c.args.items.now c.loop-value.value-index value c.loop-value-test.true c.value-item.is c.loop-value.out c.loop-value.before.now (codes ", ") c.push_item.new.out put
          ∙ c.loop-value.invariant.due;
    }

pub push_entries-loop-field-init : goal.push_entries-loop-field-init
push_entries-loop-field-init t c = record {
  text = search rules;
  plain = search rules;
  due = ap (λ s. c.args.out.now ++ s) (behind_nothing (codes ", ") (map (entry_text c.args.model.now.shapes c.args.item) c.args.fields.now));
}

pub push_entries-loop-field-preserved : goal.push_entries-loop-field-preserved
push_entries-loop-field-preserved t c =
    let shapes = c.args.model.now.shapes in
    let f = entry_text shapes c.args.item in
    let field = c.field-item.result in
    let put = two (c.loop-field.out ++ c.loop-field.before.now) (key_text field.key) (item_text shapes c.args.item field.value) c.push_key.new.out c.push_item.new.out
    (c.in_ok-push_key.ensures ∙ ap (λ s. s ++ key_text field.key) c.in_ok-push_ascii.ensures.ok) c.in_ok-push_item.ensures in
    record {
      text = search rules;
      plain = search rules;
      due = next_text f c.args.fields.now c.loop-field.field-index field c.loop-field-test.true c.field-item.is c.loop-field.out c.loop-field.before.now (codes ", ") c.push_item.new.out put
          ∙ c.loop-field.invariant.due;
    }

pub push_entries-returns : goal.push_entries-returns
push_entries-returns t c =
    let shapes = c.args.model.now.shapes in
    let fields = c.args.fields.now in
    all_put (entry_text shapes c.args.item) fields c.loop-field.field-index c.loop-field.out c.loop-field.before.now (codes ", ") _ c.loop-field-test.false c.loop-field.invariant.due
    ∙ ap (λ ts. c.args.out.now ++ joined (codes ", ") ts) (sym (entries-all shapes c.args.item fields))

pub push_spots-loop-spot-init : goal.push_spots-loop-spot-init
push_spots-loop-spot-init t c = record {
  text = search rules;
  plain = search rules;
  due = ap (λ s. c.args.out.now ++ s) (behind_nothing (codes ", ") (map (spot_text c.args.model.now.shapes c.args.fields.now) c.args.spots.now));
}

pub push_spots-loop-spot-preserved : goal.push_spots-loop-spot-preserved
push_spots-loop-spot-preserved t c =
    let shapes = c.args.model.now.shapes in
    let fields = c.args.fields.now in
    let spots = c.args.spots.now in
    let spot = c.spot-item.result in
    let at = spot.value.at in
    let within = subst (λ p. p.value.at < length fields) (sym c.spot-item.is) (c.requires c.loop-spot.spot-index spot c.loop-spot-test.true) in
    let read = get_or_default fields at c.index-fields-spot.result no_field within in
    let put = two (c.loop-spot.out ++ c.loop-spot.before.now) (key_text spot.key) (compact_of (document_of shapes (get_or fields at no_field).value spot.value.slot)) c.push_key.new.out c.push_value.new.out
    (c.in_ok-push_key.ensures ∙ ap (λ s. s ++ key_text spot.key) c.in_ok-push_ascii.ensures.ok)
    (c.in_ok-push_value.ensures ∙ ap (λ p. c.push_key.new.out ++ compact_of (document_of shapes p.value spot.value.slot)) read) in
    record {
      text = search rules;
      plain = search rules;
      due = next_text (spot_text shapes fields) spots c.loop-spot.spot-index spot c.loop-spot-test.true c.spot-item.is c.loop-spot.out c.loop-spot.before.now (codes ", ") c.push_value.new.out put
          ∙ c.loop-spot.invariant.due;
    }

pub push_spots-returns : goal.push_spots-returns
push_spots-returns t c =
    let shapes = c.args.model.now.shapes in
    let fields = c.args.fields.now in
    let spots = c.args.spots.now in
    all_put (spot_text shapes fields) spots c.loop-spot.spot-index c.loop-spot.out c.loop-spot.before.now (codes ", ") _ c.loop-spot-test.false c.loop-spot.invariant.due
    ∙ ap (λ ts. c.args.out.now ++ joined (codes ", ") ts) (sym (twice field_text (spot_field shapes fields) spots))
