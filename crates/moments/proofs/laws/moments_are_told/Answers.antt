use Rattle.moments.proofs.TimeForms.{told}
use Rattle.moments.proofs.laws.moments_are_told.Goals as goal

pub returns : goal.returns
returns c = told
