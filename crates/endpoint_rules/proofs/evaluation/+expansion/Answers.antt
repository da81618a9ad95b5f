use Rattle.texts.specs.Keys.{keys, IsDistinct}
use Rattle.endpoint_rules.proofs.Fresh.{is_fresh}
use Rattle.endpoint_rules.proofs.evaluation.+expansion.Goals as goal

pub expand_fields-push_new-requires : goal.expand_fields-push_new-requires
expand_fields-push_new-requires t c =
    let fields = c.as_slice-field-items.result.now in
    let distinct : IsDistinct (keys fields) = rw c.as_slice-field-items.ensures.same c.as_slice-field-items.ensures.distinct in
    let new = is_fresh fields c.loop-field.made c.loop-field.field-index c.field-item.result c.loop-field-test.true c.field-item.is c.loop-field.invariant.keys distinct in
    rw c.in_ok-copy.ensures new
