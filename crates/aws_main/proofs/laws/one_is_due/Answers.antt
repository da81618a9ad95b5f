use Rattle.aws_main.proofs.OneDue.{one_due}
use Rattle.aws_main.proofs.laws.one_is_due.Goals as goal

pub returns : goal.returns
returns c = one_due
