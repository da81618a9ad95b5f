use Rattle.serializer.proofs.PathLabels.{labels_stay}
use Rattle.serializer.proofs.laws.labels_stay_in_place.Goals as goal

pub returns : goal.returns
returns c = labels_stay
