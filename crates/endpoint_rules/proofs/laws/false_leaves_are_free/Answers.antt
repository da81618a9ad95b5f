use Rattle.endpoint_rules.proofs.FalseLeaves.{is_free}
use Rattle.endpoint_rules.proofs.laws.false_leaves_are_free.Goals as goal

pub returns : goal.returns
returns c = is_free
