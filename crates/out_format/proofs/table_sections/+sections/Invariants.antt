use Rattle.std.proofs.Common.{◌≡◌, ◌+◌, ◌*◌, ◌<◌, ◌++◌, drop, map}
use Rattle.std.specs.List.{AllByRecursion, flat_map}
use denote.Param.Weighed.{most}
use Rattle.json_doc.specs.declared.doc.Doc.{size-Doc}
use Rattle.out_format.specs.Borrowed.{members_of}
use Rattle.out_format.specs.Sections.{sections_text}
use Rattle.out_format.specs.Table.{part_of, numbered, entry_sections, nested_sections}
use Rattle.out_format.proofs.TableParts.{nested_of}
use Rattle.out_format.proofs.table_sections.+sections.Given as goal

abbrev pub decreases-write_members : goal.decreases-write_members
decreases-write_members l = 4 * size-Doc l.doc.now

abbrev pub decreases-write_sections : goal.decreases-write_sections
decreases-write_sections l = 4 * size-Doc l.doc.now + 1

abbrev pub decreases-write_entry : goal.decreases-write_entry
decreases-write_entry l = 4 * size-Doc l.item.now + 2

abbrev pub decreases-write_entries : goal.decreases-write_entries
decreases-write_entries l = 4 * most size-Doc l.items.now + 3

abbrev pub decreases-write_nested : goal.decreases-write_nested
decreases-write_nested l = 4 * most size-Doc l.items.now + 3

abbrev pub decreases-write_items : goal.decreases-write_items
decreases-write_items l = 4 * most size-Doc l.items.now + 4

-- the sections so far and those that are due are all of them
abbrev pub invariant-write_entries-loop-place : goal.invariant-write_entries-loop-place
invariant-write_entries-loop-place l =
    l.out ++ sections_text (numbered (entry_sections l.path) l.place (map part_of (drop l.place l.items)))
    ≡ l.fn.out ++ sections_text (numbered (entry_sections l.path) 0 (map part_of l.items))

abbrev pub invariant-write_nested-loop-place : goal.invariant-write_nested-loop-place
invariant-write_nested-loop-place l =
    l.out ++ sections_text (numbered (nested_sections l.path) l.place (map part_of (drop l.place l.items)))
    ≡ l.fn.out ++ sections_text (numbered (nested_sections l.path) 0 (map part_of l.items))

abbrev pub invariant-write_members-loop-member : goal.invariant-write_members-loop-member
invariant-write_members-loop-member l = record {
  smaller : AllByRecursion (λ p. size-Doc p.value < size-Doc l.doc) (members_of l.member-iterator);
  due : l.out ++ sections_text (flat_map (nested_of l.path) (members_of l.member-iterator)) ≡ l.initial.out ++ sections_text ((part_of l.doc).inner l.path);
}
