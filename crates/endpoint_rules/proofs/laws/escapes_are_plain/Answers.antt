use Rattle.endpoint_rules.proofs.Escapes.{plain_escapes}
use Rattle.endpoint_rules.proofs.laws.escapes_are_plain.Goals as goal

pub returns : goal.returns
returns c = plain_escapes
