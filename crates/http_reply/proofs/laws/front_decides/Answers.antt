use Rattle.http_reply.proofs.OutcomeLemmas.{front_decides}
use Rattle.http_reply.proofs.laws.front_decides.Goals as goal

pub returns : goal.returns
returns c = front_decides
