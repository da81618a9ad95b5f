use Rattle.resp_parser.proofs.OneAnswer.{one_head}
use Rattle.resp_parser.proofs.laws.head_has_one_answer.Goals as goal

pub returns : goal.returns
returns c = one_head
