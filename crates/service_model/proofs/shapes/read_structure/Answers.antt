use Rattle.std.proofs.Common.{codes, refl}
use Rattle.service_model.specs.Kept.{HasOwnNames}
use Rattle.service_model.proofs.Sequences.{came_well}
use Rattle.service_model.proofs.shapes.read_structure.Goals as goal

pub returns-clause-distinct : goal.returns-clause-distinct
returns-clause-distinct c = came_well HasOwnNames (codes "members") c.read_members.result c.in_ok-members.members c.read_members.ensures.distinct (c.in_ok-members.ensures.ascii refl)
