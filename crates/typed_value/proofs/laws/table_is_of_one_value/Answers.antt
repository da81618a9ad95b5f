use Rattle.typed_value.proofs.Tables.{one_value}
use Rattle.typed_value.proofs.laws.table_is_of_one_value.Goals as goal

pub returns : goal.returns
returns c = one_value
