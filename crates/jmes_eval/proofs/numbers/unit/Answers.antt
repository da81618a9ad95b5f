use Rattle.json_doc.proofs.Places.{pow_ten-fits, pow_ten-pos}
use Rattle.jmes_eval.proofs.numbers.unit.Goals as goal

pub pow-requires : goal.pow-requires
pow-requires c = rw c.from.ensures (pow_ten-fits c.args.scale c.requires)

pub returns-clause-positive : goal.returns-clause-positive
returns-clause-positive c = rw (c.pow.ensures, c.from.ensures) (pow_ten-pos c.args.scale)
