use Rattle.json_doc.proofs.LeastForms.{times-pow-one}
use Rattle.json_doc.proofs.significand.Significand.with_zero.Goals as goal

pub returns-clause-value : goal.returns-clause-value
returns-clause-value c = times-pow-one c.args.self.front c.args.self.zeros
