use Rattle.std.proofs.Common.{◌≡◌, ◌+◌, ◌*◌, ◌++◌, drop, map}
use Rattle.std.specs.Prelude.{IsTrue, codes}
use denote.Param.Weighed.{most}
use denote.Shadow.{shadow}
use denote.Text.{Utf8}
use Rattle.texts.specs.Ascii.{is_ascii_text}
use Rattle.texts.specs.Joined.{joined}
use Rattle.typed_value.specs.declared.typed.Typed.{size-Typed}
use Rattle.value_texts.proofs.JsonParts.{item_text, entry_text, spot_text}
use Rattle.value_texts.proofs.Marking.{behind}
use Rattle.value_texts.proofs.writing.+writing.Given as goal

abbrev pub decreases-push_value : goal.decreases-push_value
decreases-push_value l = 4 * goal.size-push_value l

abbrev pub decreases-push_item : goal.decreases-push_item
decreases-push_item l = 4 * goal.size-push_item l + 1

abbrev pub decreases-push_items : goal.decreases-push_items
decreases-push_items l = 4 * goal.size-push_items l + 2

abbrev pub decreases-push_fields : goal.decreases-push_fields
decreases-push_fields l = 4 * most (λ p. size-Typed p.value) l.fields.now + 3

abbrev pub decreases-push_entries : goal.decreases-push_entries
decreases-push_entries l = 4 * most (λ p. size-Typed p.value) l.fields.now + 2

abbrev pub decreases-push_spots : goal.decreases-push_spots
decreases-push_spots l = 4 * most (λ p. size-Typed p.value) l.fields.now + 2

abbrev pub invariant-push_items-loop-value : goal.invariant-push_items-loop-value
invariant-push_items-loop-value l = record {
  text : shadow (Utf8 l.before);
  plain : IsTrue (is_ascii_text l.before);
  due : l.out ++ behind l.before (codes ", ") (map (item_text l.model.shapes l.item) (drop l.value-index l.items))
      ≡ l.fn.out ++ joined (codes ", ") (map (item_text l.model.shapes l.item) l.items);
}

abbrev pub invariant-push_entries-loop-field : goal.invariant-push_entries-loop-field
invariant-push_entries-loop-field l = record {
  text : shadow (Utf8 l.before);
  plain : IsTrue (is_ascii_text l.before);
  due : l.out ++ behind l.before (codes ", ") (map (entry_text l.model.shapes l.item) (drop l.field-index l.fields))
      ≡ l.fn.out ++ joined (codes ", ") (map (entry_text l.model.shapes l.item) l.fields);
}

abbrev pub invariant-push_spots-loop-spot : goal.invariant-push_spots-loop-spot
invariant-push_spots-loop-spot l = record {
  text : shadow (Utf8 l.before);
  plain : IsTrue (is_ascii_text l.before);
  due : l.out ++ behind l.before (codes ", ") (map (spot_text l.model.shapes l.fields) (drop l.spot-index l.spots))
      ≡ l.fn.out ++ joined (codes ", ") (map (spot_text l.model.shapes l.fields) l.spots);
}
