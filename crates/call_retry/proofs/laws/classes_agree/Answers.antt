use Rattle.call_retry.proofs.CallLaws.{classes_agree}
use Rattle.call_retry.proofs.laws.classes_agree.Goals as goal

pub returns : goal.returns
returns c = classes_agree
