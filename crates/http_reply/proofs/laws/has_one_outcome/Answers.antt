use Rattle.http_reply.proofs.OutcomeLemmas.{has_one_outcome}
use Rattle.http_reply.proofs.laws.has_one_outcome.Goals as goal

pub returns : goal.returns
returns c = has_one_outcome
