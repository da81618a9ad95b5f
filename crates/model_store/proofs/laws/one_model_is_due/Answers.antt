use Rattle.model_store.proofs.OneDue.{one_model_due}
use Rattle.model_store.proofs.laws.one_model_is_due.Goals as goal

pub returns : goal.returns
returns c = one_model_due
