use Rattle.std.proofs.Common.{Ok, ap, sym}
use Rattle.model_files.proofs.Each.{fails_first}
use Rattle.service_model.specs.Members.{roles_of}
use Rattle.service_model.proofs.Sequences.{then_fails, then_gives, came, ends}
use Rattle.service_model.proofs.members.read_roles.Goals as goal

pub returns-in_err-json_value : goal.returns-in_err-json_value
unfolding roles_of
returns-in_err-json_value c =
    ends (λ x. x) _ c.from_residual-in_err-json_value.result c.in_err-json_value.field-0.0 (came c.from_residual-in_err-json_value.result c.in_err-json_value.field-0.0 c.from_residual-in_err-json_value.ensures)
    (then_fails _ _ _ c.in_err-json_value.field-0.0 c.in_ok-token.ensures (fails_first c.in_err-json_value.field-0.0 _ _ c.in_err-json_value.ensures))

pub returns-in_err-host_label : goal.returns-in_err-host_label
unfolding roles_of
returns-in_err-host_label c =
    ends (λ x. x) _ c.from_residual-in_err-host_label.result c.in_err-host_label.field-0.0 (came c.from_residual-in_err-host_label.result c.in_err-host_label.field-0.0 c.from_residual-in_err-host_label.ensures)
    (then_fails _ _ _ c.in_err-host_label.field-0.0 c.in_ok-token.ensures (then_fails _ _ _ c.in_err-host_label.field-0.0 c.in_ok-json_value.ensures (fails_first c.in_err-host_label.field-0.0 _ _ c.in_err-host_label.ensures)))

pub returns-in_err-context : goal.returns-in_err-context
unfolding roles_of
returns-in_err-context c =
    ends (λ x. x) _ c.from_residual-in_err-context.result c.in_err-context.field-0.0 (came c.from_residual-in_err-context.result c.in_err-context.field-0.0 c.from_residual-in_err-context.ensures)
    (then_fails _ _ _ c.in_err-context.field-0.0 c.in_ok-token.ensures (then_fails _ _ _ c.in_err-context.field-0.0 c.in_ok-json_value.ensures (then_fails _ _ _ c.in_err-context.field-0.0 c.in_ok-host_label.ensures (fails_first c.in_err-context.field-0.0 _ _ c.in_err-context.ensures))))

pub returns : goal.returns
unfolding roles_of
returns c =
    then_gives _ _ _ _ c.in_ok-token.ensures (then_gives _ _ _ _ c.in_ok-json_value.ensures (then_gives _ _ _ _ c.in_ok-host_label.ensures (then_gives _ _ _ _ c.in_ok-context.ensures
    (ap (λ context. Ok (record { token = c.in_ok-token.token; json_value = c.in_ok-json_value.json_value; host_label = c.in_ok-host_label.host_label; context = context })) (sym c.in_ok-copied.ensures)))))
