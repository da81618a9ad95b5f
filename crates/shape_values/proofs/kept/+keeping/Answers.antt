use Rattle.std.proofs.Common.{◌+◌, ◌∷◌, [], ◌++◌, drop, ap, ◌∙◌}
use Rattle.texts.specs.Keys.{keys, IsDistinct}
use Rattle.typed_value.specs.Fits.{with_values}
use Rattle.shape_values.specs.Faults.{field}
use Rattle.shape_values.specs.Kept.{kept_document}
use Rattle.shape_values.proofs.Fielded.{key-new, key-more, kept-more}
use Rattle.shape_values.proofs.kept.+keeping.Goals as goal

pub kept_fields-push_new-requires : goal.kept_fields-push_new-requires
kept_fields-push_new-requires t c =
    let fields = c.as_slice-field-items.result.now in
    let distinct : IsDistinct (keys fields) = rw c.as_slice-field-items.ensures.same c.as_slice-field-items.ensures.distinct in
    let new = key-new fields c.loop-field.made c.loop-field.field-index c.field-item.result c.loop-field-test.true c.field-item.is c.loop-field.invariant.keyed distinct in
    rw c.in_ok-copy.ensures new

pub kept_fields-loop-field-preserved : goal.kept_fields-loop-field-preserved
kept_fields-loop-field-preserved t c =
    let fields = c.as_slice-field-items.result.now in
    let made = c.loop-field.made in
    let i = c.loop-field.field-index in
    let p = c.field-item.result in
    let v = c.in_ok-kept_document.field-0 in
    let pushed = c.in_ok-push_new.ensures.ok ∙ ap (λ k. made ++ field k v ∷ []) c.in_ok-copy.ensures in
    record {
      made = ap (λ xs. xs ++ with_values kept_document (drop (i + 1) fields)) pushed
          ∙ kept-more kept_document fields made i p v c.loop-field-test.true c.field-item.is c.in_ok-kept_document.ensures c.loop-field.invariant.made;
      keyed = ap keys pushed ∙ key-more fields made i p c.loop-field-test.true c.field-item.is c.loop-field.invariant.keyed v;
    }
