use Rattle.json_doc.proofs.NumberScans.{number_at-shorter}
use Rattle.json_doc.proofs.number_token.skip_number.Goals as goal

pub returns-clause-shorter : goal.returns-clause-shorter
returns-clause-shorter c = number_at-shorter _ _ c.in_ok-rest.ensures
