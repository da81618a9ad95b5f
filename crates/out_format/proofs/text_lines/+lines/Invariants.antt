use Rattle.std.proofs.Common.{◌≡◌, ◌+◌, ◌*◌, ◌<◌, ◌++◌, drop, map}
use Rattle.std.specs.List.{AllByRecursion, flat_map}
use Rattle.std.specs.Option.{option_map}
use denote.Param.Weighed.{most}
use Rattle.json_doc.specs.declared.doc.Doc.{size-Doc}
use Rattle.texts.specs.Keys.{keys}
use Rattle.out_format.specs.Borrowed.{members_of}
use Rattle.out_format.specs.Text.{part_of, entry_lines, nested_lines, list_lines, lines_text}
use Rattle.out_format.proofs.TextParts.{nested_of}
use Rattle.out_format.proofs.text_lines.+lines.Given as goal

abbrev pub decreases-write_object : goal.decreases-write_object
decreases-write_object l = 4 * size-Doc l.doc.now

abbrev pub decreases-write_lines : goal.decreases-write_lines
decreases-write_lines l = 4 * size-Doc l.doc.now + 1

abbrev pub decreases-write_entry : goal.decreases-write_entry
decreases-write_entry l = 4 * size-Doc l.item.now + 2

abbrev pub decreases-write_entries : goal.decreases-write_entries
decreases-write_entries l = 4 * most size-Doc l.items.now + 3

abbrev pub decreases-write_items : goal.decreases-write_items
decreases-write_items l = 4 * most size-Doc l.items.now + 4

-- the lines so far and those that are due are all of them
abbrev pub invariant-write_items-loop-item : goal.invariant-write_items-loop-item
invariant-write_items-loop-item l =
    l.out ++ lines_text (flat_map (nested_lines (option_map (λ key. key.now) l.id)) (map part_of (drop l.item-index l.items)))
    ≡ l.fn.out ++ lines_text (list_lines (option_map (λ key. key.now) l.id) (map part_of l.items))

abbrev pub invariant-write_entries-loop-item : goal.invariant-write_entries-loop-item
invariant-write_entries-loop-item l =
    l.out ++ lines_text (flat_map (entry_lines (option_map (λ key. key.now) l.id) (keys (members_of l.columns.entries))) (map part_of (drop l.item-index l.items)))
    ≡ l.fn.out ++ lines_text (flat_map (entry_lines (option_map (λ key. key.now) l.id) (keys (members_of l.columns.entries))) (map part_of l.items))

abbrev pub invariant-write_object-loop-member : goal.invariant-write_object-loop-member
invariant-write_object-loop-member l = record {
  smaller : AllByRecursion (λ p. size-Doc p.value < size-Doc l.doc) (members_of l.member-iterator);
  due : l.out ++ lines_text (flat_map nested_of (members_of l.member-iterator)) ≡ l.initial.out ++ lines_text (part_of l.doc).inner;
}
