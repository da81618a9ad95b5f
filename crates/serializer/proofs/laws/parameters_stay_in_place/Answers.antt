use Rattle.serializer.proofs.QueryParts.{parameters_stay}
use Rattle.serializer.proofs.laws.parameters_stay_in_place.Goals as goal

pub returns : goal.returns
returns c = parameters_stay
