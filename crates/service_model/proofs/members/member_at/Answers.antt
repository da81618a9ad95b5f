use Rattle.model_files.proofs.Each.{fails_first}
use Rattle.service_model.specs.Members.{member_at}
use Rattle.service_model.proofs.Sequences.{then_fails, then_gives, came, ends}
use Rattle.service_model.proofs.members.member_at.Goals as goal

pub returns-in_err-wire : goal.returns-in_err-wire
unfolding member_at
returns-in_err-wire c =
    ends (λ x. x) _ c.from_residual.result c.in_err-wire.field-0.0 (came c.from_residual.result c.in_err-wire.field-0.0 c.from_residual.ensures)
    (fails_first c.in_err-wire.field-0.0 _ _ c.in_err-wire.ensures)

pub returns-in_err-time : goal.returns-in_err-time
unfolding member_at
returns-in_err-time c =
    ends (λ x. x) _ c.from_residual-in_err-time.result c.in_err-time.field-0.0 (came c.from_residual-in_err-time.result c.in_err-time.field-0.0 c.from_residual-in_err-time.ensures)
    (then_fails _ _ _ c.in_err-time.field-0.0 c.in_ok-wire.ensures (fails_first c.in_err-time.field-0.0 _ _ c.in_err-time.ensures))

pub returns-in_err-roles : goal.returns-in_err-roles
unfolding member_at
returns-in_err-roles c =
    ends (λ x. x) _ c.from_residual-in_err-roles.result c.in_err-roles.field-0.0 (came c.from_residual-in_err-roles.result c.in_err-roles.field-0.0 c.from_residual-in_err-roles.ensures)
    (then_fails _ _ _ c.in_err-roles.field-0.0 c.in_ok-wire.ensures (then_fails _ _ _ c.in_err-roles.field-0.0 c.in_ok-time.ensures (fails_first c.in_err-roles.field-0.0 _ _ c.in_err-roles.ensures)))

pub returns : goal.returns
unfolding member_at
returns c =
    then_gives _ _ _ _ c.in_ok-wire.ensures (then_gives _ _ _ _ c.in_ok-time.ensures (then_gives _ _ _ _ c.in_ok-roles.ensures (cc (c.in_ok-copy.ensures, c.in_ok-wire_name.ensures))))
