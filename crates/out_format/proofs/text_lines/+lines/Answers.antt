use Rattle.std.proofs.Common.{◌≡◌, ◌+◌, ◌<◌, ◌++◌, ◌∷◌, List, map, drop, sym, ap, ◌∙◌, subst, append-nil}
use Rattle.std.specs.List.{AllByRecursion, flat_map}
use Rattle.std.specs.Option.{option_map}
use Rattle.std.proofs.lemmas.List.{at_drop_more}
use Rattle.json_doc.specs.declared.doc.Doc.{size-Doc}
use Rattle.texts.specs.Keys.{keys}
use Rattle.out_format.specs.Borrowed.{Entry, members_of}
use Rattle.out_format.specs.Layers.{layer_of}
use Rattle.out_format.specs.Members.{columns}
use Rattle.out_format.specs.Text.{part_of, nested_lines, line_of, object_lines, list_lines, scalars_lines, texts_of, lines_text}
use Rattle.out_format.proofs.Placing.{members-smaller, object_cells-same}
use Rattle.out_format.proofs.TextParts.{lines-object, lines-list, entry-object, list-object, list-plain, nested-scalar, nested-other, nested_of, inner-out, lines_more, lines_none, lines_behind}
use Rattle.out_format.proofs.text_lines.+lines.Goals.{write_items-then-not-is_scalar+in_ok-write_lines, write_items-else-not-is_scalar}
use Rattle.out_format.proofs.text_lines.+lines.Goals as goal

pub write_entry-returns-then-is_object : goal.write_entry-returns-then-is_object
write_entry-returns-then-is_object t c =
    let id = option_map (λ key. key.now) c.args.id in
    rw (entry-object c.args.item.now id (keys (members_of c.args.columns.now.entries)) (sym c.is_object.ensures ∙ c.if-is_object.true)) c.write_object.ensures

pub write_items-returns-then-has_object : goal.write_items-returns-then-has_object
write_items-returns-then-has_object t c =
    let id = option_map (λ key. key.now) c.args.id in
    rw (list-object c.args.items.now id (sym c.has_object.ensures ∙ c.if-has_object.true)) c.write_entries.ensures

pub write_items-loop-item-init : goal.write_items-loop-item-init
write_items-loop-item-init t c =
    let items = c.args.items.now in
    let id = option_map (λ key. key.now) c.args.id in
    let nested = flat_map (nested_lines id) (map part_of items) in
    lines_behind (scalars_lines id (texts_of (map layer_of items))) nested c.args.out.now c.write_scalars.new.out c.in_ok-write_scalars.ensures
    ∙ ap (λ ls. c.args.out.now ++ lines_text ls) (sym (list-plain items id (sym c.has_object.ensures ∙ c.if-has_object.false)))

pub write_items-loop-item-preserved : goal.write_items-loop-item-preserved
write_items-loop-item-preserved t c =
    let items = c.args.items.now in
    let item = c.item-item.result in
    let index = c.loop-item.item-index in
    let out = c.loop-item.out in
    let id = option_map (λ key. key.now) c.args.id in
    let rest = map part_of (drop (index + 1) items) in
    let order = ap (λ d. out ++ lines_text (flat_map (nested_lines id) (part_of d ∷ rest))) c.item-item.is
    ∙ sym (at_drop_more (λ ds. out ++ lines_text (flat_map (nested_lines id) (map part_of ds))) items index item c.loop-item-test.true) in
    elim c.if-not-is_scalar.branch [
      | write_items-then-not-is_scalar+in_ok-write_lines w ↦
          let is = sym c.is_scalar.ensures ∙ w.if-not-is_scalar.true in
          ap (λ cs. cs ++ lines_text (flat_map (nested_lines id) rest)) w.out-is
          ∙ lines_more (nested_lines id) (part_of item) rest out w.write_lines.new.out (w.in_ok-write_lines.ensures ∙ ap (λ ls. out ++ lines_text ls) (sym (nested-other item id is)))
          ∙ order ∙ c.loop-item.invariant
      | write_items-else-not-is_scalar w ↦
          let is = sym c.is_scalar.ensures ∙ w.if-not-is_scalar.false in
          ap (λ cs. cs ++ lines_text (flat_map (nested_lines id) rest)) w.out-is
          ∙ lines_none (nested_lines id) (part_of item) rest out (nested-scalar item id is)
          ∙ order ∙ c.loop-item.invariant
    ]

pub write_lines-returns-then-is_object : goal.write_lines-returns-then-is_object
write_lines-returns-then-is_object t c =
    let doc = c.args.doc.now in
    let id = option_map (λ key. key.now) c.args.id in
    let is = sym c.is_object.ensures ∙ c.if-is_object.true in
    let same = ap (λ ks. c.args.out.now ++ lines_text (object_lines id ks (layer_of doc) ++ (part_of doc).inner)) (c.in_ok-columns.ensures.keys ∙ ap (λ ds. columns (map layer_of ds)) c.from_ref-then-is_object.ensures.value) in
    rw (lines-object doc id is) (rw same at c.write_object.ensures)

pub write_lines-returns : goal.write_lines-returns
write_lines-returns t c =
    let doc = c.args.doc.now in
    let id = option_map (λ key. key.now) c.args.id in
    let none = sym c.is_scalar.ensures ∙ c.if-is_scalar.false in
    let other = sym c.is_object.ensures ∙ c.if-is_object.false in
    let same = ap (λ ds. c.args.out.now ++ lines_text (list_lines id (map part_of ds))) c.items_of.ensures in
    rw (lines-list doc id none other) (rw same at c.write_items.ensures)

pub write_object-loop-member-init : goal.write_object-loop-member-init
write_object-loop-member-init t c =
    let doc = c.args.doc.now in
    let left : List Entry = c.into_iter-member-iterator.result in
    let gives : left ≡ c.in_ok-members.members.entries = c.into_iter-member-iterator.ensures.into_iter_gives.0 in
    let all = ap members_of gives ∙ c.in_ok-members.ensures.sorted in
    record {
      smaller = subst (AllByRecursion (λ p. size-Doc p.value < size-Doc doc)) (sym all) (members-smaller doc);
      due = ap (λ ls. c.write_object_line.new.out ++ lines_text ls) (ap (flat_map nested_of) all ∙ sym (inner-out doc));
    }

pub write_object-returns : goal.write_object-returns
write_object-returns t c =
    let doc = c.args.doc.now in
    let id = option_map (λ key. key.now) c.args.id in
    let out = c.args.out.now in
    let ks = keys (members_of c.args.columns.now.entries) in
    let members = members_of c.in_ok-members.members.entries in
    let line = c.in_ok-write_object_line.ensures ∙ ap (λ ls. out ++ lines_text ls) (ap (line_of id) (object_cells-same doc ks members c.in_ok-members.ensures.sorted)) in
    sym (append-nil c.loop-member.out)
    ∙ ap (λ es. c.loop-member.out ++ lines_text (flat_map nested_of (members_of es))) (sym c.in-None.ensures.steps.0)
    ∙ c.loop-member.invariant.due
    ∙ lines_behind (object_lines id ks (layer_of doc)) (part_of doc).inner out c.write_object_line.new.out line
