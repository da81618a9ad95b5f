use Rattle.arg_table.proofs.OnceEach.{line_distinct}
use Rattle.arg_table.proofs.laws.a_member_stands_once.Goals as goal

pub returns : goal.returns
returns c = line_distinct
