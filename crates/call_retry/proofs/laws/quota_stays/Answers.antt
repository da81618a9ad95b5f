use Rattle.call_retry.proofs.CallLaws.{quota_stays}
use Rattle.call_retry.proofs.laws.quota_stays.Goals as goal

pub returns : goal.returns
returns c = quota_stays
