use Rattle.call_retry.proofs.CallLaws.{message_is_one}
use Rattle.call_retry.proofs.laws.message_is_one.Goals as goal

pub returns : goal.returns
returns c = message_is_one
