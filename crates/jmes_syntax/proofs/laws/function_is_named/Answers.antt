use Rattle.jmes_syntax.proofs.NamedFunctions.{found_by_name}
use Rattle.jmes_syntax.proofs.laws.function_is_named.Goals as goal

pub returns : goal.returns
returns c = found_by_name
