use Rattle.endpoint_rules.proofs.Outcomes.{have_outcome}
use Rattle.endpoint_rules.proofs.laws.endpoints_have_outcome.Goals as goal

pub returns : goal.returns
returns c = have_outcome
