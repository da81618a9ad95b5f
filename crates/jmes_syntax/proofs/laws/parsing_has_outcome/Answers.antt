use Rattle.jmes_syntax.proofs.ExpressionOrFault.{expression_or_fault}
use Rattle.jmes_syntax.proofs.laws.parsing_has_outcome.Goals as goal

pub returns : goal.returns
returns c = expression_or_fault
