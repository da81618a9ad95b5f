use Rattle.std.proofs.Common.{◌≡◌, rules, List, ◌++◌, None, Some, map, length, get_or, drop, sym, ap, subst, ◌∙◌}
use Rattle.std.specs.Prelude.{OnOk}
use Rattle.std.specs.List.{flat_map}
use Rattle.std.proofs.lemmas.List.{get_or_default}
use Rattle.service_model.specs.Kept.{IsWithin}
use Rattle.texts.specs.declared.pairs.Pair.{Pair}
use Rattle.typed_value.specs.declared.fault.ValueFault.{ValueFault}
use Rattle.typed_value.specs.declared.typed.Typed.{Typed}
use Rattle.typed_value.specs.declared.typed.Typed.TheVariants.{Null}
use Rattle.typed_value.specs.Faults.{item_faults, union_faults, missing_faults, unknown_faults, member_faults, fields_faults, faults_where}
use Rattle.typed_value.specs.Fits.{with_values}
use Rattle.typed_value.specs.Paths.{below, item_path}
use Rattle.typed_value.specs.Places.{member_named}
use Rattle.typed_value.proofs.Behind.{flat-next, flat-same, flat-none, four-behind}
use Rattle.typed_value.proofs.Judged.{items-next, item-judged, member-judged, items-none, faults-map, faults-structure}
use Rattle.typed_value.proofs.Named.{named-all}
use Rattle.typed_value.proofs.Outer.{out-Fields}
use Rattle.typed_value.proofs.Steps.{next-nodes, next-field}
use Rattle.typed_value.proofs.judging.+judging.Goals as goal
use Rattle.typed_value.proofs.judging.+judging.Goals.{judge_members-in-Some+in_ok-inside+in_ok-judge, judge_members-in_default}

pub judge_inside-returns-in-Fields : goal.judge_inside-returns-in-Fields
judge_inside-returns-in-Fields t c =
    let shape = c.args.numbered.now.shape.now in
    let f = faults_where c.args.model.now.shapes in
    let judged = subst (λ ps. OnOk c.judge_fields.result (c.judge_fields.new.faults ≡ c.args.faults.now ++ fields_faults c.args.numbered.now.id shape c.args.path.now (with_values f ps)))
    c.as_slice-in-Fields.ensures.same c.judge_fields.ensures in
    rw (c.in-Fields.is, out-Fields c.in-Fields.fields) judged

pub judge_items-returns-in_default : goal.judge_items-returns-in_default
judge_items-returns-in_default t c = rw c.in_default.is (items-none c.args.faults.now c.args.path.now 0 (map (faults_where c.args.model.now.shapes) c.args.items.now))

pub judge_items-judge-requires : goal.judge_items-judge-requires
judge_items-judge-requires t c =
    let items = c.args.items.now in
    let at = c.loop-index.index in
    let v = get_or items at Null in
    let within = c.loop-index-test.true in
    let due = next-nodes (drop c.loop-index.start c.args.parts.now) items at v within (get_or_default items at Null v within) c.loop-index.invariant.nodes in
    let own = c.table_at-own.ensures.own _ _ due in
    (search rules, (rw c.of_shape-wanted.ensures (rw c.in-Some.is at c.requires.item), own.0))

pub judge_items-loop-index-preserved : goal.judge_items-loop-index-preserved
judge_items-loop-index-preserved t c =
    let shapes = c.args.model.now.shapes in
    let items = c.args.items.now in
    let path = c.args.path.now in
    let at = c.loop-index.index in
    let v = get_or items at Null in
    let within = c.loop-index-test.true in
    let same = get_or_default items at Null v within in
    let due = next-nodes (drop c.loop-index.start c.args.parts.now) items at v within same c.loop-index.invariant.nodes in
    let own = c.table_at-own.ensures.own _ _ due in
    let judged = item-judged shapes v _ c.of_shape-wanted.result c.args.item c.in-Some.item (item_path path at) _ c.loop-index.faults c.judge.new.faults
    c.in-Some.is c.of_shape-wanted.ensures own.1 c.in_ok-inside.ensures c.in_ok-judge.ensures in
    record {
      within = c.table_at-own.ensures.within;
      nodes = c.table_at-own.ensures.others _ _ due;
      due = items-next shapes c.args.item path items at v _ c.loop-index.faults c.judge.new.faults within same c.loop-index.invariant.due judged;
    }

pub judge_entries-returns-in_default : goal.judge_entries-returns-in_default
judge_entries-returns-in_default t c = rw c.in_default.is (flat-none c.args.faults.now c.args.fields.now)

pub judge_entries-judge-requires : goal.judge_entries-judge-requires
judge_entries-judge-requires t c =
    let next = next-field (drop c.loop-field.start c.args.parts.now) c.args.fields.now c.loop-field.field-index c.field-item.result c.loop-field-test.true c.field-item.is c.loop-field.invariant.nodes in
    let own = c.table_at-own.ensures.own _ _ next in
    (search rules, (rw c.of_shape-wanted.ensures (rw c.in-Some.is at c.requires.item), own.0))

pub judge_entries-loop-field-preserved : goal.judge_entries-loop-field-preserved
judge_entries-loop-field-preserved t c =
    let shapes = c.args.model.now.shapes in
    let fields = c.args.fields.now in
    let path = c.args.path.now in
    let at = c.loop-field.field-index in
    let p = c.field-item.result in
    let within = c.loop-field-test.true in
    let due = next-field (drop c.loop-field.start c.args.parts.now) fields at p within c.field-item.is c.loop-field.invariant.nodes in
    let own = c.table_at-own.ensures.own _ _ due in
    let judged = item-judged shapes p.value _ c.of_shape-wanted.result c.args.item c.in-Some.item (below path p.key) _ c.loop-field.faults c.judge.new.faults
    c.in-Some.is c.of_shape-wanted.ensures own.1 c.in_ok-inside.ensures c.in_ok-judge.ensures in
    record {
      within = c.table_at-own.ensures.within;
      nodes = c.table_at-own.ensures.others _ _ due;
      due = flat-next (λ q. item_faults c.args.item (below path q.key) (faults_where shapes q.value)) fields at p c.args.faults.now c.loop-field.faults c.judge.new.faults
          within c.field-item.is c.loop-field.invariant.due judged;
    }

pub judge_fields-returns-then-is_map : goal.judge_fields-returns-then-is_map
judge_fields-returns-then-is_map t c =
    let shape = c.args.numbered.now.shape.now in
    let same = faults-map (faults_where c.args.model.now.shapes) c.args.numbered.now.id shape c.args.path.now c.args.fields.now (sym c.is_map.ensures ∙ c.if-is_map.true) in
    subst (λ fs. OnOk c.judge_entries.result (c.judge_entries.new.faults ≡ c.args.faults.now ++ fs)) (sym same) c.judge_entries.ensures

pub judge_fields-returns : goal.judge_fields-returns
judge_fields-returns t c =
    let id = c.args.numbered.now.id in
    let shape = c.args.numbered.now.shape.now in
    let path = c.args.path.now in
    let fields = c.args.fields.now in
    let f = faults_where c.args.model.now.shapes in
    let same = faults-structure f id shape path fields (sym c.is_map.ensures ∙ c.if-is_map.false) in
    let ms = flat_map (λ p. member_faults (below path p.key) (f p.value) (member_named p.key shape.members)) fields in
    let whole = four-behind c.args.faults.now (union_faults shape path (length fields)) (flat_map (missing_faults path fields) shape.required)
    (flat_map (λ p. unknown_faults id path p.key (member_named p.key shape.members)) fields) ms c.judge_union.new.faults c.judge_required.new.faults c.judge_names.new.faults
    c.in_ok-judge_union.ensures c.in_ok-judge_required.ensures c.in_ok-judge_names.ensures in
    subst (λ fs. OnOk c.judge_members.result (c.judge_members.new.faults ≡ fs)) (whole ∙ ap (λ fs. c.args.faults.now ++ fs) (sym same)) c.judge_members.ensures

pub judge_members-judge-requires : goal.judge_members-judge-requires
judge_members-judge-requires t c =
    let shapes = c.args.model.now.shapes in
    let members = c.args.shape.now.members in
    let p = c.field-item.result in
    let m = c.in-Some.member.now in
    let next = next-field (drop c.loop-field.start c.args.parts.now) c.args.fields.now c.loop-field.field-index p c.loop-field-test.true c.field-item.is c.loop-field.invariant.nodes in
    let own = c.table_at-own.ensures.own _ _ next in
    let found = subst (λ ms. member_named p.key ms ≡ Some m) c.as_slice.ensures c.in-Some.ensures in
    let known = named-all (λ x. IsWithin shapes x.shape) p.key members m c.requires.kept.members found in
    (search rules, (rw c.of_member.ensures known, own.0))

pub judge_members-loop-field-preserved : goal.judge_members-loop-field-preserved
judge_members-loop-field-preserved t c =
    let shapes = c.args.model.now.shapes in
    let members = c.args.shape.now.members in
    let fields = c.args.fields.now in
    let path = c.args.path.now in
    let old = c.args.faults.now in
    let mid = c.loop-field.faults in
    let at = c.loop-field.field-index in
    let p = c.field-item.result in
    let within = c.loop-field-test.true in
    let due = next-field (drop c.loop-field.start c.args.parts.now) fields at p within c.field-item.is c.loop-field.invariant.nodes in
    let own = c.table_at-own.ensures.own _ _ due in
    let f : Pair Typed → List ValueFault = λ q. member_faults (below path q.key) (faults_where shapes q.value) (member_named q.key members) in
    record {
      within = c.table_at-own.ensures.within;
      nodes = c.table_at-own.ensures.others _ _ due;
      due = elim c.match-find_member.branch [
        | judge_members-in-Some+in_ok-inside+in_ok-judge w ↦
            let found = subst (λ ms. member_named p.key ms ≡ Some w.in-Some.member.now) c.as_slice.ensures w.in-Some.ensures in
            let judged = member-judged shapes p.value _ w.of_member.result (member_named p.key members) w.in-Some.member.now (below path p.key) _ mid w.judge.new.faults
            found w.of_member.ensures own.1 w.in_ok-inside.ensures w.in_ok-judge.ensures in
            flat-next f fields at p old mid c.match-find_member.faults within c.field-item.is c.loop-field.invariant.due (w.faults-is ∙ judged)
        | judge_members-in_default w ↦
            let none = subst (λ ms. member_named p.key ms ≡ None) c.as_slice.ensures (rw w.in_default.is at c.find_member.ensures) in
            w.faults-is ∙ flat-same f fields at p old mid within c.field-item.is c.loop-field.invariant.due (ap (member_faults (below path p.key) (faults_where shapes p.value)) none)
      ];
    }
