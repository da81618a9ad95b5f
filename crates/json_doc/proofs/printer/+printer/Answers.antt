use Rattle.std.proofs.Common.{◌+◌, ◌++◌, map, ap, ◌∙◌, subst}
use Rattle.std.specs.List.{AllByRecursion}
use Rattle.json_doc.specs.Documents.{IsProper, IsProperField}
use Rattle.json_doc.specs.Layouts.{text_at, parts_text, field_text}
use Rattle.json_doc.proofs.Layouts.{text_at-Null, text_at-Items, text_at-Fields, bracketed, parts_text-end}
use Rattle.json_doc.proofs.Literals.{chars-null}
use Rattle.json_doc.proofs.ProperDocuments.{text_from, IsProper-Null, IsProper-Flag, IsProper-Number, IsProper-Str, IsProper-Items, IsProper-Fields, if_ok}
use Rattle.json_doc.proofs.printer.+printer.Goals as goal

pub write_doc-returns-in-Null-clause-text : goal.write_doc-returns-in-Null-clause-text
write_doc-returns-in-Null-clause-text t c = rw (c.in-Null.is, text_at-Null c.args.layout c.args.level, ← chars-null) c.push_str.ensures.ok

pub write_doc-returns-in_ok-write_items-in-Items-clause-text : goal.write_doc-returns-in_ok-write_items-in-Items-clause-text
write_doc-returns-in_ok-write_items-in-Items-clause-text t c =
    let layout = c.args.layout in
    let level = c.args.level in
    let items = c.in-Items.items in
    let parts = c.in_ok-write_items-in-Items.ensures.text ∙ ap (λ ds. c.push.new.self ++ parts_text layout level (map (text_at layout (level + 1)) ds)) c.as_slice.ensures in
    let whole = bracketed c.args.out.now c.push.new.self c.write_items.new.out (parts_text layout level (map (text_at layout (level + 1)) items)) 91 93 c.in_ok-push-in-Items.ensures.ok parts in
    rw (c.in-Items.is, text_at-Items layout level items) (rw whole at c.push-in-Items.ensures.ok)

pub write_doc-returns-in_ok-write_fields-in-Fields-clause-text : goal.write_doc-returns-in_ok-write_fields-in-Fields-clause-text
write_doc-returns-in_ok-write_fields-in-Fields-clause-text t c =
    let layout = c.args.layout in
    let level = c.args.level in
    let fields = c.in-Fields.fields in
    let parts = c.in_ok-write_fields-in-Fields.ensures.text ∙ ap (λ ps. c.push-in-Fields.new.self ++ parts_text layout level (map (field_text layout (level + 1)) ps)) c.as_slice-in-Fields.ensures.same in
    let whole = bracketed c.args.out.now c.push-in-Fields.new.self c.write_fields.new.out (parts_text layout level (map (field_text layout (level + 1)) fields)) 123 125 c.in_ok-push-in-Fields.ensures.ok parts in
    rw (c.in-Fields.is, text_at-Fields layout level fields) (rw whole at c.push-in-Fields-2.ensures.ok)

pub write_items-returns-clause-text : goal.write_items-returns-clause-text
write_items-returns-clause-text t c =
    let whole = parts_text-end c.args.layout c.args.level c.in_ok-inside.inside c.loop-item.item-index c.loop-item.is_first c.is_empty.result (text_at c.args.layout) c.args.items.now c.args.out.now c.loop-item.out c.in_ok-inside.ensures c.loop-item-test.false c.is_empty.ensures c.loop-item.invariant.0 in
    rw whole at c.write_after.ensures

pub write_fields-returns-clause-text : goal.write_fields-returns-clause-text
write_fields-returns-clause-text t c =
    let whole = parts_text-end c.args.layout c.args.level c.in_ok-inside.inside c.loop-field.field-index c.loop-field.is_first c.is_empty.result (field_text c.args.layout) c.args.fields.now c.args.out.now c.loop-field.out c.in_ok-inside.ensures c.loop-field-test.false c.is_empty.ensures c.loop-field.invariant.0 in
    rw whole at c.write_after.ensures

pub write_doc-returns-in-Null-clause-proper : goal.write_doc-returns-in-Null-clause-proper
write_doc-returns-in-Null-clause-proper t c = rw c.in-Null.is (if_ok c.push_str.result _ IsProper-Null)

pub write_doc-returns-in-Flag-clause-proper : goal.write_doc-returns-in-Flag-clause-proper
write_doc-returns-in-Flag-clause-proper t c = rw c.in-Flag.is (if_ok c.write_flag.result _ (IsProper-Flag c.in-Flag.flag))

pub write_doc-returns-in-Number-clause-proper : goal.write_doc-returns-in-Number-clause-proper
write_doc-returns-in-Number-clause-proper t c = rw c.in-Number.is (if_ok c.write_decimal.result _ (IsProper-Number c.in-Number.n))

pub write_doc-returns-in-Str-clause-proper : goal.write_doc-returns-in-Str-clause-proper
write_doc-returns-in-Str-clause-proper t c =
    let text = text_from c.in-Str.text c.as_str.result.now c.as_str.utf8 c.as_str.ensures.value in
    rw c.in-Str.is (if_ok c.push_quoted.result _ (IsProper-Str c.in-Str.text text))

pub write_doc-returns-in_ok-write_items-in-Items-clause-proper : goal.write_doc-returns-in_ok-write_items-in-Items-clause-proper
write_doc-returns-in_ok-write_items-in-Items-clause-proper t c =
    let items = c.in-Items.items in
    let all = subst (AllByRecursion IsProper) c.as_slice.ensures c.in_ok-write_items-in-Items.ensures.proper in
    rw c.in-Items.is (if_ok c.push-in-Items.result _ (IsProper-Items items all))

pub write_doc-returns-in_ok-write_fields-in-Fields-clause-proper : goal.write_doc-returns-in_ok-write_fields-in-Fields-clause-proper
write_doc-returns-in_ok-write_fields-in-Fields-clause-proper t c =
    let fields = c.in-Fields.fields in
    let all = subst (AllByRecursion IsProperField) c.as_slice-in-Fields.ensures.same c.in_ok-write_fields-in-Fields.ensures.proper in
    rw c.in-Fields.is (if_ok c.push-in-Fields-2.result _ (IsProper-Fields fields all c.as_slice-in-Fields.ensures.distinct))
