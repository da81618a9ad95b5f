use Rattle.std.proofs.Common.{◌≡◌, length, ap, ◌∙◌, arith}
use Rattle.service_model.specs.Reach.{is_listed}
use Rattle.service_model.proofs.Noted.{listed_more, listed_all, written_back}
use Rattle.service_model.proofs.reach.users.Goals as goal

pub loop-at-preserved : goal.loop-at-preserved
loop-at-preserved c =
    let noted = c.add_user.new.users in
    let before = c.loop-at.users in
    let same : length noted ≡ length before.items = c.add_user.ensures.size ∙ ap length c.as_mut_slice.ensures.value in
    let back = written_back before.len noted before.items same (omega (arith, before.ok.0)) in
    record {
      size = ap length back ∙ same ∙ c.loop-at.invariant.size;
      listed = λ part user. ap (λ lists. is_listed lists part user) back ∙ listed_more c.args.shapes.now c.loop-at.at c.index-shapes-at.result part user
          (is_listed c.as_mut_slice.result.now part user) (is_listed noted part user) c.loop-at-test.true c.index-shapes-at.is
          (ap (λ lists. is_listed lists part user) c.as_mut_slice.ensures.value ∙ c.loop-at.invariant.listed part user) (c.in_ok-add_user.ensures.listed part user);
    }

pub returns-clause-listed : goal.returns-clause-listed
returns-clause-listed c = λ part user. listed_all c.args.shapes.now c.loop-at.at part user (is_listed c.loop-at.users.items part user) c.loop-at-test.false (c.loop-at.invariant.listed part user)
