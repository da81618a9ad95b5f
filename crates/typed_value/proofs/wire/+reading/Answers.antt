use Rattle.std.proofs.Common.{◌<◌, [], ◌∷◌, ◌++◌, length, take, Some, sym, ap, ◌∙◌}
use Rattle.std.specs.Prelude.{option_map, option_and_then}
use Rattle.std.proofs.lemmas.List.{map-append, take_more, get_or-map, length-map}
use Rattle.json_doc.specs.Grammar.{put_all}
use Rattle.texts.specs.Keys.{keys, IsDistinct, put}
use Rattle.typed_value.specs.declared.typed.Typed.TheVariants.{Items, Fields}
use Rattle.typed_value.specs.Fits.{with_values}
use Rattle.typed_value.specs.Wire.{pair_of, member_read, entries_read, read_of}
use Rattle.typed_value.proofs.Gathered.{item_of, entry_of, field_of, all-next, all-fails, all-end, items-whole, entries-whole, structure-whole, put_all-push, new-before}
use Rattle.typed_value.proofs.wire.+reading.Goals as goal

pub read_items-returns-in-None : goal.read_items-returns-in-None
read_items-returns-in-None t c =
    let shapes = c.args.model.now.shapes in
    let docs = c.args.items.now in
    let none = all-fails (item_of shapes c.args.item) docs c.loop-doc.doc-index c.doc-item.result c.loop-doc-test.true c.doc-item.is (sym c.in_ok-value.ensures ∙ c.in-None.is) in
    sym (items-whole shapes c.args.item docs ∙ ap (option_map Items) none)

pub read_items-loop-doc-preserved : goal.read_items-loop-doc-preserved
read_items-loop-doc-preserved t c =
    let shapes = c.args.model.now.shapes in
    let next = all-next (item_of shapes c.args.item) c.args.items.now c.loop-doc.doc-index c.doc-item.result c.loop-doc-test.true c.doc-item.is c.loop-doc.made c.in-Some.value
    c.loop-doc.invariant (sym c.in_ok-value.ensures ∙ c.in-Some.is) in
    next ∙ ap Some (sym c.in_ok-push-in-Some.ensures.ok)

pub read_items-returns : goal.read_items-returns
read_items-returns t c =
    let shapes = c.args.model.now.shapes in
    let docs = c.args.items.now in
    let all = all-end (item_of shapes c.args.item) docs c.loop-doc.doc-index c.loop-doc.made c.loop-doc-test.false c.loop-doc.invariant in
    sym (items-whole shapes c.args.item docs ∙ ap (option_map Items) all)

pub read_entries-push_new-requires : goal.read_entries-push_new-requires
read_entries-push_new-requires t c =
    let fields = c.as_slice-field-items.result.now in
    let at = c.loop-field.field-index in
    let p = c.field-item.result in
    let distinct : IsDistinct (keys fields) = rw c.as_slice-field-items.ensures.same c.as_slice-field-items.ensures.distinct in
    let within : at < length (keys fields) = rw length-map c.loop-field-test.true in
    let same = ap (λ q. q.key) c.field-item.is ∙ sym (get_or-map (λ q. q.key) fields at p p.key c.loop-field-test.true) in
    rw (c.in_ok-copy-in-Some.ensures, c.loop-field.invariant.keyed) (new-before (keys fields) at p.key within same distinct)

pub read_entries-returns-in-None : goal.read_entries-returns-in-None
read_entries-returns-in-None t c =
    let shapes = c.args.model.now.shapes in
    let fields = c.as_slice-field-items.result.now in
    let p = c.field-item.result in
    let none = all-fails (entry_of shapes c.args.item) fields c.loop-field.field-index p c.loop-field-test.true c.field-item.is
    (ap (option_map (pair_of p.key)) (sym c.in_ok-value.ensures ∙ c.in-None.is)) in
    sym (ap (λ ps. entries_read (with_values (read_of shapes) ps) c.args.item) (sym c.as_slice-field-items.ensures.same) ∙ entries-whole shapes c.args.item fields ∙ ap (option_map Fields) none)

pub read_entries-loop-field-preserved : goal.read_entries-loop-field-preserved
read_entries-loop-field-preserved t c =
    let shapes = c.args.model.now.shapes in
    let fields = c.as_slice-field-items.result.now in
    let at = c.loop-field.field-index in
    let p = c.field-item.result in
    let v = c.in-Some.value in
    let made = c.loop-field.made in
    let within : at < length (keys fields) = rw length-map c.loop-field-test.true in
    let same = ap (λ q. q.key) c.field-item.is ∙ sym (get_or-map (λ q. q.key) fields at p p.key c.loop-field-test.true) in
    let pushed = c.in_ok-push_new-in-Some.ensures.ok ∙ ap (λ k. made ++ pair_of k v ∷ []) c.in_ok-copy-in-Some.ensures in
    let next = all-next (entry_of shapes c.args.item) fields at p c.loop-field-test.true c.field-item.is made (pair_of p.key v)
    c.loop-field.invariant.there (ap (option_map (pair_of p.key)) (sym c.in_ok-value.ensures ∙ c.in-Some.is)) in
    record {
      there = next ∙ ap Some (sym pushed);
      keyed = ap keys pushed ∙ map-append (λ q. q.key) made (pair_of p.key v ∷ []) ∙ ap (λ ks. ks ++ p.key ∷ []) c.loop-field.invariant.keyed
          ∙ sym (take_more (keys fields) at p.key within ∙ ap (λ k. take at (keys fields) ++ k ∷ []) (sym same));
    }

pub read_entries-returns : goal.read_entries-returns
read_entries-returns t c =
    let shapes = c.args.model.now.shapes in
    let fields = c.as_slice-field-items.result.now in
    let all = all-end (entry_of shapes c.args.item) fields c.loop-field.field-index c.loop-field.made c.loop-field-test.false c.loop-field.invariant.there in
    sym (ap (λ ps. entries_read (with_values (read_of shapes) ps) c.args.item) (sym c.as_slice-field-items.ensures.same) ∙ entries-whole shapes c.args.item fields ∙ ap (option_map Fields) all)

pub read_members-returns-in_default : goal.read_members-returns-in_default
read_members-returns-in_default t c =
    let shapes = c.args.model.now.shapes in
    let members = c.args.members.now in
    let fields = c.args.fields.now in
    let p = c.field-item.result in
    let none = all-fails (field_of shapes members) fields c.loop-field.field-index p c.loop-field-test.true c.field-item.is
    (ap (option_and_then (member_read (read_of shapes p.value))) (sym c.in_default.ensures.named)) in
    sym (structure-whole shapes members fields ∙ ap (option_map (λ qs. Fields (put_all [] qs))) none)

pub read_members-returns-in-None : goal.read_members-returns-in-None
read_members-returns-in-None t c =
    let shapes = c.args.model.now.shapes in
    let members = c.args.members.now in
    let fields = c.args.fields.now in
    let p = c.field-item.result in
    let m = c.in-Some.member.now in
    let none = all-fails (field_of shapes members) fields c.loop-field.field-index p c.loop-field-test.true c.field-item.is
    (ap (option_and_then (member_read (read_of shapes p.value))) (sym c.in-Some.ensures.named) ∙ ap (option_map (pair_of m.name)) (sym c.in_ok-value.ensures ∙ c.in-None.is)) in
    sym (structure-whole shapes members fields ∙ ap (option_map (λ qs. Fields (put_all [] qs))) none)

pub read_members-loop-field-preserved : goal.read_members-loop-field-preserved
read_members-loop-field-preserved t c =
    let shapes = c.args.model.now.shapes in
    let members = c.args.members.now in
    let fields = c.args.fields.now in
    let p = c.field-item.result in
    let m = c.in-Some.member.now in
    let v = c.in-Some-2.value in
    let qs = c.loop-field.invariant.0 in
    let q = pair_of m.name v in
    let next = all-next (field_of shapes members) fields c.loop-field.field-index p c.loop-field-test.true c.field-item.is qs q c.loop-field.invariant.1
    (ap (option_and_then (member_read (read_of shapes p.value))) (sym c.in-Some.ensures.named) ∙ ap (option_map (pair_of m.name)) (sym c.in_ok-value.ensures ∙ c.in-Some-2.is)) in
    let made = c.in_ok-put-in-Some-2.ensures.ok ∙ ap (λ k. put c.loop-field.made k v) c.in_ok-copy-in-Some-2.ensures ∙ ap (λ ps. put ps m.name v) c.loop-field.invariant.2 in
    (qs ++ q ∷ [], next, made ∙ sym (put_all-push [] qs q))

pub read_members-returns : goal.read_members-returns
read_members-returns t c =
    let shapes = c.args.model.now.shapes in
    let members = c.args.members.now in
    let fields = c.args.fields.now in
    let qs = c.loop-field.invariant.0 in
    let all = all-end (field_of shapes members) fields c.loop-field.field-index qs c.loop-field-test.false c.loop-field.invariant.1 in
    sym (structure-whole shapes members fields ∙ ap (option_map (λ rs. Fields (put_all [] rs))) all ∙ ap (λ ps. Some (Fields ps)) (sym c.loop-field.invariant.2))
