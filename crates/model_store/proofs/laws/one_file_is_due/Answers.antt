use Rattle.model_store.proofs.OneDue.{one_file_due}
use Rattle.model_store.proofs.laws.one_file_is_due.Goals as goal

pub returns : goal.returns
returns c = one_file_due
