use Rattle.aws_main.specs.Plain.{plain_member}
use Rattle.aws_main.proofs.Each.{nothing_in_front, each_goes, each_done}
use Rattle.aws_main.proofs.plain_operations.plain_members.Goals as goal

pub loop-member-init : goal.loop-member-init
loop-member-init c = rw c.new-plain.ensures (nothing_in_front _)

pub loop-member-preserved : goal.loop-member-preserved
loop-member-preserved c =
    rw c.in_ok-push.ensures.ok (each_goes (plain_member c.args.model.now.shapes) c.args.members.now c.loop-member.member-index c.member-item.result c.in_ok-plain_member.field-0 c.loop-member.plain _ c.loop-member-test.true c.member-item.is c.in_ok-plain_member.ensures c.loop-member.invariant)

pub returns : goal.returns
returns c = each_done (plain_member c.args.model.now.shapes) c.args.members.now c.loop-member.member-index c.loop-member.plain _ c.loop-member-test.false c.loop-member.invariant
