use Rattle.model_store.proofs.FirstModels.{newest_is_first}
use Rattle.model_store.proofs.laws.newest_is_first.Goals as goal

pub returns : goal.returns
returns c = newest_is_first
