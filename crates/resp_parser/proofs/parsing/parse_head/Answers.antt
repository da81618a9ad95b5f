use Rattle.resp_parser.proofs.Answered.{only-head}
use Rattle.resp_parser.proofs.parsing.parse_head.Goals as goal

pub returns-clause-only : goal.returns-clause-only
returns-clause-only c = only-head c.args.model.now c.args.op.now c.args.reply.now c.parsed_head.result c.parsed_head.ensures
