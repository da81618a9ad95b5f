use Rattle.std.proofs.Common.{nat_eq, ◌∙◌}
use Rattle.service_model.specs.Reach.{is_listed}
use Rattle.service_model.proofs.Noted.{noted_more}
use Rattle.service_model.proofs.reach.add_to_members.Goals as goal

pub loop-member-preserved : goal.loop-member-preserved
loop-member-preserved c = record {
  size = c.add.ensures.size ∙ c.loop-member.invariant.size;
  listed = λ part user. noted_more (λ m. nat_eq part m.shape.0) c.args.members.now c.loop-member.member-index c.member-item.result
      (is_listed c.args.users.now part user) (nat_eq user c.args.at) (is_listed c.loop-member.users part user) (is_listed c.add.new.users part user)
      c.loop-member-test.true c.member-item.is (c.loop-member.invariant.listed part user) (c.in_ok-add.ensures.listed part user);
}
