use Rattle.std.proofs.Common.{◌≡◌, ◌+◌, ◌<◌, ◌∷◌, ◌++◌, [], true, false, None, Some, Ok, length, map, get_or, set, take, drop, arith, sym, ap, subst, ◌∙◌}
use Rattle.std.specs.List.{All}
use Rattle.std.specs.Option.{option_copied}
use Rattle.std.specs.Vec.Iter.{into_iter_items}
use Rattle.std.proofs.lemmas.List.{get_or_read, length-set}
use Rattle.json_doc.specs.declared.doc.Doc.TheVariants as doc
use Rattle.service_model.specs.Kept.{IsMember}
use Rattle.service_model.specs.Shapes.{names_in}
use Rattle.texts.specs.Keys.{keys, value_at, IsDistinct, IsNew}
use Rattle.resp_parser.specs.Inside.{Ends, there}
use Rattle.resp_parser.specs.FirstFault.{fault_of, items_fault, judge_of, members_fault}
use Rattle.resp_parser.specs.Kept.{kept_of, known_members, pair_of, unknown_tag, with_values}
use Rattle.resp_parser.specs.Kinds.{is_null}
use Rattle.resp_parser.specs.Paths.{to_name, unless}
use Rattle.resp_parser.proofs.Due.{due-passes}
use Rattle.resp_parser.proofs.Ending.{ends-below, err-path, ok-none, ok-value, ok-through}
use Rattle.resp_parser.proofs.Keyed.{keys-with, new-front}
use Rattle.resp_parser.proofs.MemberSteps.{absent-made, absent-passed, present-made, present-passed, present-refused, size-found, there-value, value-read, values-left}
use Rattle.resp_parser.proofs.Names.{AreNames, name-new, names-more, names-same}
use Rattle.resp_parser.proofs.Parts.{item-made, item-passed, item-read, list-due, map-due, structure-due, tagged-due}
use Rattle.resp_parser.proofs.keeping.+keeping.Goals as goal

pub keep-returns-then-passes : goal.keep-returns-then-passes
keep-returns-then-passes t c =
    due-passes c.args.model.now.shapes c.args.id c.shape-shape.result.now c.shape-shape.ensures.at c.args.value (sym c.passes.ensures ∙ c.if-passes.true)

pub each_kept-loop-at-preserved : goal.each_kept-loop-at-preserved
each_kept-loop-at-preserved t c =
    let shapes = c.args.model.now.shapes in
    let old = c.args.values.items in
    let now = c.loop-at.values.items in
    let i = c.loop-at.at in
    let d = c.replace-value.result in
    let due = c.in-Ok.ensures in
    let within : i < length old = omega arith in
    let inside : i < length now = omega arith in
    let here : d ≡ get_or now i d = c.replace-value.ensures.value ∙ get_or_read now i c.index_mut.result.now inside c.index_mut.ensures.value d in
    let at = item-read shapes c.args.item old now i within c.loop-at.invariant.made d here in
    let none = ok-none (fault_of shapes d c.args.item) (kept_of shapes d (Some c.args.item)) c.in-Ok.kept due in
    let kept = ok-value (fault_of shapes d c.args.item) (kept_of shapes d (Some c.args.item)) c.in-Ok.kept due in
    record {
      count = length-set (set now i c.replace-value.new.dest) i c.in-Ok.kept ∙ length-set now i c.replace-value.new.dest ∙ c.loop-at.invariant.count;
      made = item-made shapes c.args.item old now i within c.loop-at.invariant.made d c.replace-value.new.dest c.in-Ok.kept at kept;
      due = item-passed shapes c.args.item old now i within c.loop-at.invariant.made d (items_fault (Some c.args.item) 0 (map (judge_of shapes) old)) at c.loop-at.invariant.due none;
    }

pub keep_entries-push_new-requires : goal.keep_entries-push_new-requires
keep_entries-push_new-requires t c =
    let front = c.loop-key.yielded in
    let p = c.in-Some.field-0 in
    let rest = into_iter_items c.next.new.self in
    let whole : front ++ p ∷ rest ≡ c.args.fields = ap (λ xs. front ++ xs) (sym c.in-Some.ensures.steps.0) ∙ c.loop-key.invariant.whole in
    let distinct = subst (λ ps. IsDistinct (keys ps)) (sym whole) c.into_vec-key-items.ensures.distinct in
    let same = ap keys c.loop-key.invariant.made ∙ keys-with (λ value. kept_of c.args.model.now.shapes value (Some c.args.item)) front in
    subst (IsNew p.key) (sym same) (new-front front p rest distinct)

pub keep_fields-returns-in-Some : goal.keep_fields-returns-in-Some
keep_fields-returns-in-Some t c =
    let shapes = c.args.model.now.shapes in
    let shape = c.args.shape.now in
    let ps = c.args.fields in
    let due = map-due shapes shape c.requires.parts c.in-Some.item ps (sym c.is_map.ensures ∙ c.if-is_map.true) c.in-Some.is in
    subst (Ends (λ kept. kept) c.keep_entries.result) (sym due) c.keep_entries.ensures

pub keep_fields-returns-in-None-unknown_tag : goal.keep_fields-returns-in-None-unknown_tag
keep_fields-returns-in-None-unknown_tag t c =
    let shapes = c.args.model.now.shapes in
    let shape = c.args.shape.now in
    let ps = c.args.fields in
    let tag = ap (unknown_tag is_null shape) (sym c.as_slice.ensures.same) ∙ sym c.unknown_tag.ensures ∙ ap option_copied c.in-None-unknown_tag.is in
    let due = structure-due shapes shape c.requires.parts ps (sym c.is_map.ensures ∙ c.if-is_map.false) (sym c.is_structure.ensures ∙ c.if-not-is_structure.false) tag in
    subst (Ends (λ kept. kept) c.keep_members.result) (sym due) c.keep_members.ensures

pub keep_fields-returns-in_ok-unknown_member-in-Some-unknown_tag : goal.keep_fields-returns-in_ok-unknown_member-in-Some-unknown_tag
keep_fields-returns-in_ok-unknown_member-in-Some-unknown_tag t c =
    let shapes = c.args.model.now.shapes in
    let shape = c.args.shape.now in
    let ps = c.args.fields in
    let tag = ap (unknown_tag is_null shape) (sym c.as_slice.ensures.same) ∙ sym c.in-Some-unknown_tag.ensures in
    tagged-due shapes shape c.requires.parts ps c.in-Some-unknown_tag.tag.now (sym c.is_map.ensures ∙ c.if-is_map.false) (sym c.is_structure.ensures ∙ c.if-not-is_structure.false) tag
    ∙ ap Ok (sym c.in_ok-unknown_member-in-Some-unknown_tag.ensures)

pub keep_items-returns-in_ok-kept-in-Some : goal.keep_items-returns-in_ok-kept-in-Some
keep_items-returns-in_ok-kept-in-Some t c =
    let shapes = c.args.model.now.shapes in
    let shape = c.args.shape.now in
    let item = c.in-Some.item in
    let inner = subst (λ ds. unless (items_fault (Some item) 0 (map (judge_of shapes) ds)) (map (λ d. kept_of shapes d (Some item)) ds) ≡ Ok c.in_ok-kept-in-Some.kept.items)
    c.into_vec.ensures c.in_ok-kept-in-Some.ensures in
    let due = list-due shapes shape c.requires.parts item c.args.items (sym c.is_list.ensures ∙ c.if-not-is_list.false) c.in-Some.is in
    due ∙ ok-through doc.Items (items_fault (Some item) 0 (map (judge_of shapes) c.args.items)) (map (λ d. kept_of shapes d (Some item)) c.args.items) c.in_ok-kept-in-Some.kept.items inner
    ∙ ap (λ ds. Ok (doc.Items ds)) (sym c.from_vec.ensures)

pub keep_members-loop-at-preserved-in_default : goal.keep_members-loop-at-preserved-in_default
keep_members-loop-at-preserved-in_default t c =
    let shapes = c.args.model.now.shapes in
    let members = c.as_slice-members.result.now in
    let ps = c.args.fields in
    let m = c.index-members-at.result in
    let i = c.loop-at.at in
    let within = c.loop-at-test.true in
    let at = c.index-members-at.is in
    let read = value-read members ps c.loop-at.values.items i m within at c.loop-at.invariant.left c.index_mut.result.now c.index_mut.ensures.value in
    let none : there (value_at m.wire ps) ≡ None = ap there (sym (c.take.ensures.value ∙ read)) ∙ sym c.there.ensures ∙ c.in_default.is in
    record {
      count = length-set c.loop-at.values.items i c.take.new.self ∙ c.loop-at.invariant.count;
      left = values-left members ps c.loop-at.values.items i m within at c.loop-at.invariant.left c.take.new.self;
      names = names-same members i m within at c.loop-at.made c.loop-at.invariant.names;
      made = absent-made shapes members ps i m within at c.loop-at.made (known_members members (with_values (kept_of shapes) ps)) c.loop-at.invariant.made none;
      due = absent-passed shapes members ps i m within at (members_fault (with_values (judge_of shapes) ps) members) c.loop-at.invariant.due none;
    }

pub keep_members-keep-requires : goal.keep_members-keep-requires
keep_members-keep-requires t c =
    let members = c.as_slice-members.result.now in
    let ps = c.args.fields in
    let m = c.index-members-at.result in
    let i = c.loop-at.at in
    let d = c.in-Some.value in
    let read = value-read members ps c.loop-at.values.items i m c.loop-at-test.true c.index-members-at.is c.loop-at.invariant.left c.index_mut.result.now c.index_mut.ensures.value in
    let is : value_at m.wire ps ≡ Some d = there-value (value_at m.wire ps) d (ap there (sym (c.take.ensures.value ∙ read)) ∙ sym c.there.ensures ∙ c.in-Some.is) in
    let small = size-found m.wire ps d is in
    let kept = subst (λ xs. All (IsMember c.args.model.now.shapes) xs) (sym c.as_slice-members.ensures) c.requires.kept.members in
    let here = subst (IsMember c.args.model.now.shapes) (sym (get_or_read members i m c.loop-at-test.true c.index-members-at.is m)) (kept i m c.loop-at-test.true) in
    (omega arith, here.shape)

pub keep_members-push_new-requires : goal.keep_members-push_new-requires
keep_members-push_new-requires t c =
    let members = c.as_slice-members.result.now in
    let m = c.index-members-at.result in
    let own : IsDistinct (names_in members) = subst (λ xs. IsDistinct (names_in xs)) (sym c.as_slice-members.ensures) c.requires.own_names in
    rw c.in_ok-copy-in-Ok.ensures (name-new members c.loop-at.at m c.loop-at-test.true c.index-members-at.is c.loop-at.made c.loop-at.invariant.names own)

pub keep_members-returns-in-Err : goal.keep_members-returns-in-Err
keep_members-returns-in-Err t c =
    let shapes = c.args.model.now.shapes in
    let members = c.as_slice-members.result.now in
    let ps = c.args.fields in
    let m = c.index-members-at.result in
    let i = c.loop-at.at in
    let d = c.in-Some.value in
    let jps = with_values (judge_of shapes) ps in
    let read = value-read members ps c.loop-at.values.items i m c.loop-at-test.true c.index-members-at.is c.loop-at.invariant.left c.index_mut.result.now c.index_mut.ensures.value in
    let is : there (value_at m.wire ps) ≡ Some d = ap there (sym (c.take.ensures.value ∙ read)) ∙ sym c.there.ensures ∙ c.in-Some.is in
    let whole = ap (members_fault jps) c.as_slice-members.ensures in
    ends-below (λ kept. kept) (λ kept. kept) (to_name m.name) c.in-Err.fault c.below_name.result (unless (fault_of shapes d m.shape) (kept_of shapes d (Some m.shape)))
    (unless (members_fault jps c.args.shape.now.members) (doc.Fields (known_members c.args.shape.now.members (with_values (kept_of shapes) ps))))
    c.below_name.ensures
    (λ path e. ap (λ o. unless o (doc.Fields (known_members c.args.shape.now.members (with_values (kept_of shapes) ps))))
    (sym whole ∙ present-refused shapes members ps i m c.loop-at-test.true c.index-members-at.is (members_fault jps members) c.loop-at.invariant.due d path is (err-path (fault_of shapes d m.shape) (kept_of shapes d (Some m.shape)) path e)))
    c.in-Err.ensures

pub keep_members-loop-at-preserved : goal.keep_members-loop-at-preserved
keep_members-loop-at-preserved t c =
    let shapes = c.args.model.now.shapes in
    let members = c.as_slice-members.result.now in
    let ps = c.args.fields in
    let m = c.index-members-at.result in
    let i = c.loop-at.at in
    let d = c.in-Some.value in
    let within = c.loop-at-test.true in
    let at = c.index-members-at.is in
    let read = value-read members ps c.loop-at.values.items i m within at c.loop-at.invariant.left c.index_mut.result.now c.index_mut.ensures.value in
    let is : there (value_at m.wire ps) ≡ Some d = ap there (sym (c.take.ensures.value ∙ read)) ∙ sym c.there.ensures ∙ c.in-Some.is in
    let due = c.in-Ok.ensures in
    let none = ok-none (fault_of shapes d m.shape) (kept_of shapes d (Some m.shape)) c.in-Ok.kept due in
    let kept = ok-value (fault_of shapes d m.shape) (kept_of shapes d (Some m.shape)) c.in-Ok.kept due in
    let pushed = c.in_ok-push_new-in-Ok.ensures.ok ∙ ap (λ k. c.loop-at.made ++ pair_of k c.in-Ok.kept ∷ []) c.in_ok-copy-in-Ok.ensures in
    record {
      count = length-set c.loop-at.values.items i c.take.new.self ∙ c.loop-at.invariant.count;
      left = values-left members ps c.loop-at.values.items i m within at c.loop-at.invariant.left c.take.new.self;
      names = subst (λ xs. AreNames (take (i + 1) members) xs) (sym pushed) (names-more members i m within at c.loop-at.made c.loop-at.invariant.names c.in-Ok.kept);
      made = ap (λ xs. xs ++ known_members (drop (i + 1) members) (with_values (kept_of shapes) ps)) pushed
          ∙ present-made shapes members ps i m within at c.loop-at.made (known_members members (with_values (kept_of shapes) ps)) c.loop-at.invariant.made d c.in-Ok.kept is kept;
      due = present-passed shapes members ps i m within at (members_fault (with_values (judge_of shapes) ps) members) c.loop-at.invariant.due d is none;
    }
