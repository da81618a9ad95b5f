use Rattle.call_retry.proofs.CallLaws.{calls_end_alike}
use Rattle.call_retry.proofs.laws.calls_end_alike.Goals as goal

pub returns : goal.returns
returns c = calls_end_alike
