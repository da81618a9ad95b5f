use Rattle.jmes_eval.proofs.Settings.{new-next}
use Rattle.jmes_eval.proofs.setting.push_copies.Goals as goal

pub push_new-requires : goal.push_new-requires
push_new-requires c =
    rw c.in_ok-copy.ensures (new-next c.loop-field.made _ c.args.fields.now c.loop-field.field-index c.field-item.result c.loop-field-test.true c.field-item.is c.loop-field.invariant c.requires)
