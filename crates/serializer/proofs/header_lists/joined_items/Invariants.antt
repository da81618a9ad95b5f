use Rattle.std.proofs.Common.{◌≡◌, ◌++◌, map, drop}
use Rattle.std.specs.Prelude.{IsTrue, codes}
use denote.Shadow.{shadow}
use denote.Text.{Utf8}
use Rattle.texts.specs.Ascii.{is_ascii_text}
use Rattle.texts.specs.Joined.{joined}
use Rattle.value_texts.proofs.Marking.{behind}
use Rattle.serializer.specs.HeaderTexts.{item_text}
use Rattle.serializer.proofs.header_lists.joined_items.Given as goal

-- the items so far and those that are due are all of them
abbrev pub invariant-loop-item : goal.invariant-loop-item
invariant-loop-item l = record {
  text : shadow (Utf8 l.before);
  plain : IsTrue (is_ascii_text l.before);
  due : l.out ++ behind l.before (codes ",") (map (item_text l.model.shapes l.slot) (drop l.item-index l.items))
      ≡ joined (codes ",") (map (item_text l.model.shapes l.slot) l.items);
}
