use Rattle.serializer.proofs.RootedPaths.{paths_there}
use Rattle.serializer.proofs.laws.paths_are_there.Goals as goal

pub returns : goal.returns
returns c = paths_there
