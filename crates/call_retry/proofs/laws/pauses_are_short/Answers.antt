use Rattle.call_retry.proofs.CallLaws.{pauses_are_short}
use Rattle.call_retry.proofs.laws.pauses_are_short.Goals as goal

pub returns : goal.returns
returns c = pauses_are_short
