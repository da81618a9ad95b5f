use Rattle.texts.specs.Keys.{keys, IsDistinct}
use Rattle.texts.proofs.KeyedFronts.{IsNew-before}
use Rattle.json_doc.proofs.copied.+copying.Goals as goal

pub copy_fields-push_new-requires : goal.copy_fields-push_new-requires
copy_fields-push_new-requires t c =
    let fields = c.as_slice-field-items.result.now in
    let distinct : IsDistinct (keys fields) = rw c.as_slice-field-items.ensures.same c.as_slice-field-items.ensures.distinct in
    let new = IsNew-before fields c.loop-field.made c.loop-field.field-index c.field-item.result c.loop-field-test.true c.field-item.is c.loop-field.invariant distinct in
    rw c.in_ok-copy.ensures new
