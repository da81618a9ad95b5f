use Rattle.serializer.proofs.VisibleTargets.{targets_visible}
use Rattle.serializer.proofs.laws.targets_are_visible.Goals as goal

pub returns : goal.returns
returns c = targets_visible
