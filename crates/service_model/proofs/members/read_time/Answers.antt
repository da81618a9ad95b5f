use Rattle.model_files.proofs.Each.{fails_first}
use Rattle.service_model.specs.Members.{time_of}
use Rattle.service_model.proofs.Sequences.{then_as, came, ends}
use Rattle.service_model.proofs.members.read_time.Goals as goal

pub returns-in_err-name : goal.returns-in_err-name
unfolding time_of
returns-in_err-name c =
    ends (λ x. x) _ c.from_residual.result c.in_err-name.field-0.0 (came c.from_residual.result c.in_err-name.field-0.0 c.from_residual.ensures)
    (fails_first c.in_err-name.field-0.0 _ _ c.in_err-name.ensures)

pub returns : goal.returns
unfolding time_of
returns c = then_as (λ x. x) _ _ _ c.time_in.result c.in_ok-name.ensures c.time_in.ensures
