use Rattle.shape_values.proofs.Told.{instants_of}
use Rattle.shape_values.proofs.laws.times_are_told.Goals as goal

pub returns : goal.returns
returns c = instants_of c.moments_are_told.ensures
