use Rattle.arg_table.proofs.FaultKinds.{head_due, line_due}
use Rattle.arg_table.proofs.laws.a_line_is_one.Goals as goal

pub returns : goal.returns
returns c = record { head = head_due; line = line_due }
