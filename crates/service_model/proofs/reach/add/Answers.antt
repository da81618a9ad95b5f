use Rattle.std.proofs.Common.{arith}
use Rattle.service_model.proofs.Noted.{noted}
use Rattle.service_model.proofs.reach.add.Goals as goal

pub returns-clause-listed : goal.returns-clause-listed
returns-clause-listed c = λ part user. noted c.args.users.now c.args.at c.args.id.0 c.index-users-id.result c.push.new.self part user c.requires c.index-users-id.is (grind arith)
