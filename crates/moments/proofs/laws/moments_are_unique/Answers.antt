use Rattle.moments.proofs.TimeForms.{one_time}
use Rattle.moments.proofs.laws.moments_are_unique.Goals as goal

pub returns : goal.returns
returns c = one_time
