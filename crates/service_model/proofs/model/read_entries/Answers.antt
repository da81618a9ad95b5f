use Rattle.std.proofs.Common.{codes, refl}
use Rattle.std.specs.List.{All}
use Rattle.service_model.specs.Kept.{HasOwnNames}
use Rattle.service_model.proofs.Sequences.{came_well}
use Rattle.service_model.proofs.model.read_entries.Goals as goal

pub returns-clause-distinct : goal.returns-clause-distinct
returns-clause-distinct c = came_well (All (λ shape. HasOwnNames shape.members)) (codes "shapes") c.read_shapes.result c.in_ok-shapes.shapes c.read_shapes.ensures.distinct (c.in_ok-shapes.ensures.ascii refl)
