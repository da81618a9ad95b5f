use Rattle.shorthand.proofs.Outcomes.{has_outcome}
use Rattle.shorthand.proofs.laws.shorthand_has_outcome.Goals as goal

pub returns : goal.returns
returns c = has_outcome
