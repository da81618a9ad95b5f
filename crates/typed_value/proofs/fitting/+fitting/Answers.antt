use Rattle.std.proofs.Common.{◌≡◌, rules, ◌+◌, true, false, ◌&&◌, Some, length, get_or, drop, refl, sym, ap, subst, ◌∙◌}
use Rattle.std.specs.Prelude.{pos}
use Rattle.std.specs.List.{list_all}
use Rattle.std.proofs.lemmas.Bool.{true≢false}
use Rattle.std.proofs.lemmas.List.{get_or_default}
use Rattle.service_model.specs.Kept.{IsWithin}
use Rattle.typed_value.specs.declared.typed.Typed.TheVariants.{Null}
use Rattle.typed_value.specs.Fits.{has_one, has_key, fields_fit, with_values, item_fits, member_fits, fits_where}
use Rattle.typed_value.specs.Kinds.{is_enough}
use Rattle.typed_value.specs.Places.{member_named}
use Rattle.typed_value.proofs.Fitted.{all-passed, all-next, all-fails, item-tested, member-tested, inside-items, fields-map, fields-structure, rest-of, first-fails, second-fails}
use Rattle.typed_value.proofs.Named.{named-all}
use Rattle.typed_value.proofs.Outer.{out-Items, out-Fields}
use Rattle.typed_value.proofs.Steps.{next-nodes, next-field, next-entry, no_entry}
use Rattle.typed_value.proofs.fitting.+fitting.Goals as goal
use Rattle.typed_value.proofs.fitting.+fitting.Goals.{fields_fit-then-has_one, fields_fit-else-has_one}

pub inside_fits-returns-then-is_long_enough : goal.inside_fits-returns-then-is_long_enough
inside_fits-returns-then-is_long_enough t c =
    let shape = c.args.shape.now in
    let items = c.in-Items.items in
    let f = fits_where c.args.model.now.shapes in
    let parts = c.items_fit.ensures ∙ ap (list_all (λ v. item_fits shape.item (f v))) c.as_slice.ensures in
    let long = sym (ap (λ n. is_enough shape.min (pos n)) c.len.ensures) ∙ sym c.is_long_enough-in-Items.ensures ∙ c.if-is_long_enough.true in
    rw (c.in-Items.is, out-Items items) (parts ∙ sym (ap (λ b. b && list_all (λ v. item_fits shape.item (f v)) items) long) ∙ sym (inside-items f shape items))

pub inside_fits-returns-else-is_long_enough : goal.inside_fits-returns-else-is_long_enough
inside_fits-returns-else-is_long_enough t c =
    let shape = c.args.shape.now in
    let items = c.in-Items.items in
    let f = fits_where c.args.model.now.shapes in
    let short = sym (ap (λ n. is_enough shape.min (pos n)) c.len.ensures) ∙ sym c.is_long_enough-in-Items.ensures ∙ c.if-is_long_enough.false in
    rw (c.in-Items.is, out-Items items) (c.if-is_long_enough.false ∙ sym (ap (λ b. b && list_all (λ v. item_fits shape.item (f v)) items) short) ∙ sym (inside-items f shape items))

pub inside_fits-returns-in-Fields : goal.inside_fits-returns-in-Fields
inside_fits-returns-in-Fields t c =
    let shape = c.args.shape.now in
    let f = fits_where c.args.model.now.shapes in
    rw (c.in-Fields.is, out-Fields c.in-Fields.fields) (c.fields_fit.ensures ∙ ap (λ ps. fields_fit shape (with_values f ps)) c.as_slice-in-Fields.ensures.same)

pub items_fit-returns-in_default : goal.items_fit-returns-in_default
items_fit-returns-in_default t c = rw c.in_default.is (sym (all-passed c.args.items.now))

pub items_fit-fits-requires : goal.items_fit-fits-requires
items_fit-fits-requires t c =
    let items = c.args.items.now in
    let at = c.loop-index._index in
    let v = get_or items at Null in
    let within = c.loop-index-test.true in
    let same = get_or_default items at Null v within in
    let own = c.table_at-own.ensures.own v (drop (at + 1) items) (next-nodes (drop c.loop-index.start c.args.below.now) items at v within same c.loop-index.invariant.nodes) in
    (search rules, (rw c.of_shape.ensures (rw c.in-Some.is at c.requires.item), own.0))

pub items_fit-returns-then-not-fits : goal.items_fit-returns-then-not-fits
items_fit-returns-then-not-fits t c =
    let shapes = c.args.model.now.shapes in
    let items = c.args.items.now in
    let at = c.loop-index._index in
    let v = get_or items at Null in
    let within = c.loop-index-test.true in
    let same = get_or_default items at Null v within in
    let own = c.table_at-own.ensures.own v (drop (at + 1) items) (next-nodes (drop c.loop-index.start c.args.below.now) items at v within same c.loop-index.invariant.nodes) in
    sym (all-fails (λ x. item_fits c.args.item (fits_where shapes x)) items at v within same
    (item-tested shapes v _ c.of_shape.result c.args.item c.in-Some.item c.fits.result false c.in-Some.is c.of_shape.ensures own.1 c.fits.ensures c.if-not-fits.true))

pub items_fit-loop-index-preserved : goal.items_fit-loop-index-preserved
items_fit-loop-index-preserved t c =
    let shapes = c.args.model.now.shapes in
    let items = c.args.items.now in
    let at = c.loop-index._index in
    let v = get_or items at Null in
    let within = c.loop-index-test.true in
    let same = get_or_default items at Null v within in
    let due = next-nodes (drop c.loop-index.start c.args.below.now) items at v within same c.loop-index.invariant.nodes in
    let own = c.table_at-own.ensures.own v (drop (at + 1) items) due in
    let id = c.in-Some.item in
    let fits = item-tested shapes v _ c.of_shape.result (Some id) id c.fits.result true refl c.of_shape.ensures own.1 c.fits.ensures c.if-not-fits.false in
    record {
      within = c.table_at-own.ensures.within;
      nodes = c.table_at-own.ensures.others v (drop (at + 1) items) due;
      passed = all-next (λ x. item_fits (Some id) (fits_where shapes x)) items at v within same c.loop-index.invariant.passed fits;
    }

pub entries_fit-returns-in_default : goal.entries_fit-returns-in_default
entries_fit-returns-in_default t c = rw c.in_default.is (sym (all-passed c.args.fields.now))

pub entries_fit-fits-requires : goal.entries_fit-fits-requires
entries_fit-fits-requires t c =
    let at = c.loop-index._index in
    let next = next-entry (drop c.loop-index.start c.args.below.now) c.args.fields.now at c.loop-index-test.true c.loop-index.invariant.nodes in
    let own = c.table_at-own.ensures.own _ _ next in
    (search rules, (rw c.of_shape.ensures (rw c.in-Some.is at c.requires.item), own.0))

pub entries_fit-returns-then-not-fits : goal.entries_fit-returns-then-not-fits
entries_fit-returns-then-not-fits t c =
    let shapes = c.args.model.now.shapes in
    let fields = c.args.fields.now in
    let at = c.loop-index._index in
    let p = get_or fields at no_entry in
    let within = c.loop-index-test.true in
    let own = c.table_at-own.ensures.own _ _ (next-entry (drop c.loop-index.start c.args.below.now) fields at within c.loop-index.invariant.nodes) in
    sym (all-fails (λ q. item_fits c.args.item (fits_where shapes q.value)) fields at p within (get_or_default fields at no_entry p within)
    (item-tested shapes p.value _ c.of_shape.result c.args.item c.in-Some.item c.fits.result false c.in-Some.is c.of_shape.ensures own.1 c.fits.ensures c.if-not-fits.true))

pub entries_fit-loop-index-preserved : goal.entries_fit-loop-index-preserved
entries_fit-loop-index-preserved t c =
    let shapes = c.args.model.now.shapes in
    let fields = c.args.fields.now in
    let at = c.loop-index._index in
    let p = get_or fields at no_entry in
    let within = c.loop-index-test.true in
    let due = next-entry (drop c.loop-index.start c.args.below.now) fields at within c.loop-index.invariant.nodes in
    let own = c.table_at-own.ensures.own _ _ due in
    let id = c.in-Some.item in
    let fits = item-tested shapes p.value _ c.of_shape.result (Some id) id c.fits.result true refl c.of_shape.ensures own.1 c.fits.ensures c.if-not-fits.false in
    record {
      within = c.table_at-own.ensures.within;
      nodes = c.table_at-own.ensures.others _ _ due;
      passed = all-next (λ q. item_fits (Some id) (fits_where shapes q.value)) fields at p within (get_or_default fields at no_entry p within) c.loop-index.invariant.passed fits;
    }

pub members_fit-fits-requires : goal.members_fit-fits-requires
members_fit-fits-requires t c =
    let shapes = c.args.model.now.shapes in
    let members = c.args.shape.now.members in
    let p = c.field-item.result in
    let m = c.in-Some.member.now in
    let next = next-field (drop c.loop-field.start c.args.below.now) c.args.fields.now c.loop-field.field-index p c.loop-field-test.true c.field-item.is c.loop-field.invariant.nodes in
    let own = c.table_at-own.ensures.own _ _ next in
    let found = subst (λ ms. member_named p.key ms ≡ Some m) c.as_slice.ensures c.in-Some.ensures in
    let known = named-all (λ x. IsWithin shapes x.shape) p.key members m c.requires.kept.members found in
    (search rules, (rw c.of_member.ensures known, own.0))

pub members_fit-returns-then-not-fits : goal.members_fit-returns-then-not-fits
members_fit-returns-then-not-fits t c =
    let shapes = c.args.model.now.shapes in
    let members = c.args.shape.now.members in
    let fields = c.args.fields.now in
    let at = c.loop-field.field-index in
    let p = c.field-item.result in
    let m = c.in-Some.member.now in
    let within = c.loop-field-test.true in
    let own = c.table_at-own.ensures.own _ _ (next-field (drop c.loop-field.start c.args.below.now) fields at p within c.field-item.is c.loop-field.invariant.nodes) in
    let found = subst (λ ms. member_named p.key ms ≡ Some m) c.as_slice.ensures c.in-Some.ensures in
    sym (all-fails (λ q. member_fits (member_named q.key members) (fits_where shapes q.value)) fields at p within c.field-item.is
    (member-tested shapes p.value _ c.of_member.result (member_named p.key members) m c.fits.result false found c.of_member.ensures own.1 c.fits.ensures c.if-not-fits.true))

pub members_fit-loop-field-preserved : goal.members_fit-loop-field-preserved
members_fit-loop-field-preserved t c =
    let shapes = c.args.model.now.shapes in
    let members = c.args.shape.now.members in
    let fields = c.args.fields.now in
    let at = c.loop-field.field-index in
    let p = c.field-item.result in
    let m = c.in-Some.member.now in
    let within = c.loop-field-test.true in
    let due = next-field (drop c.loop-field.start c.args.below.now) fields at p within c.field-item.is c.loop-field.invariant.nodes in
    let own = c.table_at-own.ensures.own _ _ due in
    let found = subst (λ ms. member_named p.key ms ≡ Some m) c.as_slice.ensures c.in-Some.ensures in
    let fits = member-tested shapes p.value _ c.of_member.result (member_named p.key members) m c.fits.result true found c.of_member.ensures own.1 c.fits.ensures c.if-not-fits.false in
    record {
      within = c.table_at-own.ensures.within;
      nodes = c.table_at-own.ensures.others _ _ due;
      passed = all-next (λ q. member_fits (member_named q.key members) (fits_where shapes q.value)) fields at p within c.field-item.is c.loop-field.invariant.passed fits;
    }

pub fields_fit-returns-then-is_map : goal.fields_fit-returns-then-is_map
fields_fit-returns-then-is_map t c =
    let shape = c.args.shape.now in
    let f = fits_where c.args.model.now.shapes in
    c.entries_fit.ensures ∙ sym (fields-map f shape c.args.fields.now (sym c.is_map.ensures ∙ c.if-is_map.true))

pub fields_fit-returns-then-has_required : goal.fields_fit-returns-then-has_required
fields_fit-returns-then-has_required t c =
    let shape = c.args.shape.now in
    let fields = c.args.fields.now in
    let whole = fields-structure (fits_where c.args.model.now.shapes) shape fields (sym c.is_map.ensures ∙ c.if-is_map.false) in
    elim c.if-has_one.branch [
      | fields_fit-then-has_one w ↦ c.members_fit.ensures ∙ sym (rest-of (has_one shape (length fields)) (list_all (has_key fields) shape.required) _
          (sym c.has_one.ensures ∙ w.if-has_one.true) (sym w.has_required.ensures ∙ sym w.value-is ∙ c.if-has_required.true)) ∙ sym whole
      | fields_fit-else-has_one w ↦ absurd (true≢false (sym c.if-has_required.true ∙ w.value-is ∙ w.if-has_one.false))
    ]

pub fields_fit-returns-else-has_required : goal.fields_fit-returns-else-has_required
fields_fit-returns-else-has_required t c =
    let shape = c.args.shape.now in
    let fields = c.args.fields.now in
    let whole = fields-structure (fits_where c.args.model.now.shapes) shape fields (sym c.is_map.ensures ∙ c.if-is_map.false) in
    elim c.if-has_one.branch [
      | fields_fit-then-has_one w ↦ c.if-has_required.false ∙ sym (second-fails (has_one shape (length fields)) (list_all (has_key fields) shape.required) _
          (sym w.has_required.ensures ∙ sym w.value-is ∙ c.if-has_required.false)) ∙ sym whole
      | fields_fit-else-has_one w ↦ c.if-has_required.false ∙ sym (first-fails (has_one shape (length fields)) _ (sym c.has_one.ensures ∙ w.if-has_one.false)) ∙ sym whole
    ]
