use Rattle.service_model.proofs.NamedShapes.{members_have_named_shapes}
use Rattle.service_model.proofs.laws.members_have_named_shapes.Goals as goal

pub returns : goal.returns
returns c = members_have_named_shapes
