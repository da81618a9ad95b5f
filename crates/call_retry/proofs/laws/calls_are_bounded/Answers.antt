use Rattle.call_retry.proofs.CallLaws.{calls_are_bounded}
use Rattle.call_retry.proofs.laws.calls_are_bounded.Goals as goal

pub returns : goal.returns
returns c = calls_are_bounded
