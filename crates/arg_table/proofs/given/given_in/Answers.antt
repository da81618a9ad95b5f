use Rattle.std.proofs.Common.{ap, sym, ◌∙◌}
use Rattle.arg_table.specs.Given.{given_as}
use Rattle.arg_table.proofs.Gifts.{gifts_go}
use Rattle.arg_table.proofs.given.given_in.Goals as goal

pub loop-group-preserved : goal.loop-group-preserved
loop-group-preserved c =
    gifts_go c.args.table.now c.args.waits c.args.groups.now c.loop-group.group-index c.group-item.result c.loop-group-test.true c.group-item.is
    c.loop-group.made.items c.push.new.self.items c.in_ok-given_as.field-0 c.loop-group.invariant
    (ap (given_as c.group-item.result) (sym c.meaning_of-meaning.ensures) ∙ c.in_ok-given_as.ensures) c.in_ok-push.ensures.items
