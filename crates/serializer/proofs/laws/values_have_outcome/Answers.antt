use Rattle.serializer.proofs.Outcomes.{have_outcome}
use Rattle.serializer.proofs.laws.values_have_outcome.Goals as goal

pub returns : goal.returns
returns c = have_outcome
