use Rattle.http_reply.proofs.PrintedReplies.{printed_is_whole}
use Rattle.http_reply.proofs.laws.printed_is_whole.Goals as goal

pub returns : goal.returns
returns c = printed_is_whole
