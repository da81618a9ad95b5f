use Rattle.http_reply.proofs.PrintedReplies.{ended_is_whole}
use Rattle.http_reply.proofs.laws.ended_is_whole.Goals as goal

pub returns : goal.returns
returns c = ended_is_whole
