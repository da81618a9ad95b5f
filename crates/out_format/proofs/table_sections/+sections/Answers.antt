use Rattle.std.proofs.Common.{◌≡◌, ◌+◌, ◌<◌, ◌++◌, ◌∷◌, [], List, map, drop, sym, ap, ◌∙◌, subst}
use Rattle.std.specs.List.{AllByRecursion, flat_map}
use Rattle.std.proofs.lemmas.List.{at_drop_more}
use Rattle.json_doc.specs.declared.doc.Doc.{size-Doc}
use Rattle.out_format.specs.Borrowed.{Entry, members_of}
use Rattle.out_format.specs.Layers.{layer_of}
use Rattle.out_format.specs.Sections.{sections_text}
use Rattle.out_format.specs.Table.{part_of, list_sections, objects_sections, rows_sections, numbered, entry_sections, nested_sections}
use Rattle.out_format.proofs.Placing.{members-smaller}
use Rattle.out_format.proofs.TableParts.{sections-object, sections-list, list-object, list-plain, nested-row, nested-other, nested_of, inner-out, sections_behind, on_two_behind, sections_none}
use Rattle.out_format.proofs.table_sections.+sections.Goals.{write_nested-then-not-is_row+in_ok-inner+in_ok-write_sections, write_nested-else-not-is_row}
use Rattle.out_format.proofs.table_sections.+sections.Goals as goal

pub write_items-returns-then-has_object : goal.write_items-returns-then-has_object
write_items-returns-then-has_object t c =
    let items = c.args.items.now in
    let path = c.args.path.now in
    rw (list-object items path (sym c.has_object.ensures ∙ c.if-has_object.true))
    (on_two_behind c.write_entries.result (objects_sections path (map layer_of items)) (numbered (entry_sections path) 0 (map part_of items)) c.args.out.now c.write_objects.new.out c.write_entries.new.out c.in_ok-write_objects.ensures c.write_entries.ensures)

pub write_items-returns : goal.write_items-returns
write_items-returns t c =
    let items = c.args.items.now in
    let path = c.args.path.now in
    rw (list-plain items path (sym c.has_object.ensures ∙ c.if-has_object.false))
    (on_two_behind c.write_nested.result (rows_sections path (map layer_of items)) (numbered (nested_sections path) 0 (map part_of items)) c.args.out.now c.write_rows.new.out c.write_nested.new.out c.in_ok-write_rows.ensures c.write_nested.ensures)

pub write_members-loop-member-init : goal.write_members-loop-member-init
write_members-loop-member-init t c =
    let doc = c.args.doc.now in
    let path = c.args.path.now in
    let left : List Entry = c.into_iter-member-iterator.result in
    let gives : left ≡ c.in_ok-members.members.entries = c.into_iter-member-iterator.ensures.into_iter_gives.0 in
    let all = ap members_of gives ∙ c.in_ok-members.ensures.sorted in
    record {
      smaller = subst (AllByRecursion (λ p. size-Doc p.value < size-Doc doc)) (sym all) (members-smaller doc);
      due = ap (λ ls. c.args.out.now ++ sections_text ls) (ap (flat_map (nested_of path)) all ∙ sym (inner-out doc path));
    }

pub write_nested-loop-place-preserved : goal.write_nested-loop-place-preserved
write_nested-loop-place-preserved t c =
    let items = c.args.items.now in
    let path = c.args.path.now in
    let item = c.index-items-place.result in
    let place = c.loop-place.place in
    let out = c.loop-place.out in
    let rest = numbered (nested_sections path) (place + 1) (map part_of (drop (place + 1) items)) in
    let order = ap (λ d. out ++ sections_text (nested_sections path place (part_of d) ++ rest)) c.index-items-place.is
    ∙ sym (at_drop_more (λ ds. out ++ sections_text (numbered (nested_sections path) place (map part_of ds))) items place item c.loop-place-test.true) in
    elim c.if-not-is_row.branch [
      | write_nested-then-not-is_row+in_ok-inner+in_ok-write_sections w ↦
          let is = sym c.is_row.ensures ∙ w.if-not-is_row.true in
          ap (λ cs. cs ++ sections_text rest) w.out-is
          ∙ sections_behind (nested_sections path place (part_of item)) rest out w.write_sections.new.out
          (w.in_ok-write_sections.ensures ∙ ap (λ p. out ++ sections_text ((part_of item).whole p)) w.in_ok-inner.ensures ∙ ap (λ ls. out ++ sections_text ls) (sym (nested-other item path place is)))
          ∙ order ∙ c.loop-place.invariant
      | write_nested-else-not-is_row w ↦
          let is = sym c.is_row.ensures ∙ w.if-not-is_row.false in
          ap (λ cs. cs ++ sections_text rest) w.out-is
          ∙ sections_none (nested_sections path place (part_of item)) rest out (nested-row item path place is)
          ∙ order ∙ c.loop-place.invariant
    ]

pub write_sections-returns-then-is_object : goal.write_sections-returns-then-is_object
write_sections-returns-then-is_object t c =
    let doc = c.args.doc.now in
    let path = c.args.path.now in
    let objects = c.in_ok-write_objects.ensures ∙ ap (λ ds. c.args.out.now ++ sections_text (objects_sections path (map layer_of ds))) c.from_ref-then-is_object.ensures.value in
    rw (sections-object doc path (sym c.is_object.ensures ∙ c.if-is_object.true))
    (on_two_behind c.write_members.result (objects_sections path (layer_of doc ∷ [])) ((part_of doc).inner path) c.args.out.now c.write_objects.new.out c.write_members.new.out objects c.write_members.ensures)

pub write_sections-returns : goal.write_sections-returns
write_sections-returns t c =
    let doc = c.args.doc.now in
    let path = c.args.path.now in
    let none = sym c.is_scalar.ensures ∙ c.if-is_scalar.false in
    let other = sym c.is_object.ensures ∙ c.if-is_object.false in
    let same = ap (λ ds. c.args.out.now ++ sections_text (list_sections path (map part_of ds))) c.items_of.ensures in
    rw (sections-list doc path none other) (rw same at c.write_items.ensures)
