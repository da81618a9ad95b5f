use Rattle.resp_parser.proofs.OneAnswer.{one_answer}
use Rattle.resp_parser.proofs.laws.reply_has_one_answer.Goals as goal

pub returns : goal.returns
returns c = one_answer
