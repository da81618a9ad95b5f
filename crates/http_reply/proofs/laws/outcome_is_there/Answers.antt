use Rattle.http_reply.proofs.ComputedLemmas.{outcome_is_there}
use Rattle.http_reply.proofs.laws.outcome_is_there.Goals as goal

pub returns : goal.returns
returns c = outcome_is_there
