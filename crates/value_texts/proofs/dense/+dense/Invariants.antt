use Rattle.std.proofs.Common.{◌≡◌, ◌+◌, ◌*◌, ◌++◌, drop, map}
use Rattle.std.specs.Prelude.{IsTrue, codes}
use denote.Param.Weighed.{most}
use denote.Shadow.{shadow}
use denote.Text.{Utf8}
use Rattle.json_doc.specs.declared.doc.Doc.{size-Doc}
use Rattle.texts.specs.Ascii.{is_ascii_text}
use Rattle.texts.specs.Joined.{joined}
use Rattle.value_texts.specs.Dense.{dense_of}
use Rattle.value_texts.proofs.DenseParts.{field_dense}
use Rattle.value_texts.proofs.Marking.{behind}
use Rattle.value_texts.proofs.dense.+dense.Given as goal

abbrev pub decreases-push_dense : goal.decreases-push_dense
decreases-push_dense l = 2 * goal.size-push_dense l

abbrev pub decreases-push_items : goal.decreases-push_items
decreases-push_items l = 2 * goal.size-push_items l + 1

abbrev pub decreases-push_fields : goal.decreases-push_fields
decreases-push_fields l = 2 * most (λ p. size-Doc p.value) l.fields.now + 1

abbrev pub invariant-push_items-loop-item : goal.invariant-push_items-loop-item
invariant-push_items-loop-item l = record {
  text : shadow (Utf8 l.before);
  plain : IsTrue (is_ascii_text l.before);
  due : l.out ++ behind l.before (codes ",") (map dense_of (drop l.item-index l.items)) ≡ l.fn.out ++ joined (codes ",") (map dense_of l.items);
}

abbrev pub invariant-push_fields-loop-field : goal.invariant-push_fields-loop-field
invariant-push_fields-loop-field l = record {
  text : shadow (Utf8 l.before);
  plain : IsTrue (is_ascii_text l.before);
  due : l.out ++ behind l.before (codes ",") (map field_dense (drop l.field-index l.fields)) ≡ l.fn.out ++ joined (codes ",") (map field_dense l.fields);
}
