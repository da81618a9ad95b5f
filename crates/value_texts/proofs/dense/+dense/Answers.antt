use Rattle.std.proofs.Common.{rules, ◌++◌, map, sym, ap, ◌∙◌}
use Rattle.std.specs.Prelude.{codes}
use Rattle.texts.specs.Joined.{joined}
use Rattle.value_texts.specs.Dense.{dense_of, dense_field}
use Rattle.value_texts.specs.Quoted.{quoted}
use Rattle.value_texts.proofs.DenseParts.{field_dense, with_dense, with_all, dense-Items, dense-Fields}
use Rattle.json_doc.proofs.Layouts.{bracketed}
use Rattle.value_texts.proofs.Marking.{behind_nothing, next_text, three, all_put}
use Rattle.value_texts.proofs.dense.+dense.Goals as goal

pub push_dense-returns-in_ok-push_items-in-Items : goal.push_dense-returns-in_ok-push_items-in-Items
push_dense-returns-in_ok-push_items-in-Items t c =
    let items = c.in-Items.items in
    let inside = joined (codes ",") (map dense_of items) in
    let parts = c.in_ok-push_items-in-Items.ensures ∙ ap (λ ds. c.push.new.self ++ joined (codes ",") (map dense_of ds)) c.as_slice.ensures in
    let whole = bracketed c.args.out.now c.push.new.self c.push_items.new.out inside 91 93 c.in_ok-push-in-Items.ensures.ok parts in
    rw (c.in-Items.is, dense-Items items) (rw whole at c.push-in-Items.ensures.ok)

pub push_dense-returns-in_ok-push_fields-in-Fields : goal.push_dense-returns-in_ok-push_fields-in-Fields
push_dense-returns-in_ok-push_fields-in-Fields t c =
    let fields = c.in-Fields.fields in
    let inside = joined (codes ",") (map dense_field (map with_dense fields)) in
    let parts = c.in_ok-push_fields-in-Fields.ensures ∙ ap (λ ps. c.push-in-Fields.new.self ++ joined (codes ",") (map dense_field (map with_dense ps))) c.as_slice-in-Fields.ensures.same in
    let whole = bracketed c.args.out.now c.push-in-Fields.new.self c.push_fields.new.out inside 123 125 c.in_ok-push-in-Fields.ensures.ok parts in
    rw (c.in-Fields.is, dense-Fields fields) (rw whole at c.push-in-Fields-2.ensures.ok)

pub push_items-loop-item-init : goal.push_items-loop-item-init
push_items-loop-item-init t c = record {
  text = search rules;
  plain = search rules;
  due = ap (λ s. c.args.out.now ++ s) (behind_nothing (codes ",") (map dense_of c.args.items.now));
}

pub push_items-loop-item-preserved : goal.push_items-loop-item-preserved
push_items-loop-item-preserved t c =
    let item = c.item-item.result in
    let put = c.in_ok-push_dense.ensures ∙ ap (λ s. s ++ dense_of item) c.in_ok-push_ascii.ensures.ok in
    record {
      text = search rules;
      plain = search rules;
      due = next_text dense_of c.args.items.now c.loop-item.item-index item c.loop-item-test.true c.item-item.is c.loop-item.out c.loop-item.before.now (codes ",") c.push_dense.new.out put
          ∙ c.loop-item.invariant.due;
    }

pub push_fields-loop-field-init : goal.push_fields-loop-field-init
push_fields-loop-field-init t c = record {
  text = search rules;
  plain = search rules;
  due = ap (λ s. c.args.out.now ++ s) (behind_nothing (codes ",") (map field_dense c.args.fields.now));
}

pub push_fields-loop-field-preserved : goal.push_fields-loop-field-preserved
push_fields-loop-field-preserved t c =
    let field = c.field-item.result in
    let put = three (c.loop-field.out ++ c.loop-field.before.now) (quoted field.key) (codes ":") (dense_of field.value)
    c.push_quoted.new.out c.push_ascii-in-loop-field.new.self c.push_dense.new.out
    (c.in_ok-push_quoted.ensures ∙ ap (λ s. s ++ quoted field.key) c.in_ok-push_ascii.ensures.ok) c.in_ok-push_ascii-2.ensures.ok c.in_ok-push_dense.ensures in
    record {
      text = search rules;
      plain = search rules;
      due = next_text field_dense c.args.fields.now c.loop-field.field-index field c.loop-field-test.true c.field-item.is c.loop-field.out c.loop-field.before.now (codes ",") c.push_dense.new.out put
          ∙ c.loop-field.invariant.due;
    }

pub push_fields-returns : goal.push_fields-returns
push_fields-returns t c =
    let fields = c.args.fields.now in
    all_put field_dense fields c.loop-field.field-index c.loop-field.out c.loop-field.before.now (codes ",") _ c.loop-field-test.false c.loop-field.invariant.due
    ∙ ap (λ ts. c.args.out.now ++ joined (codes ",") ts) (sym (with_all fields))
