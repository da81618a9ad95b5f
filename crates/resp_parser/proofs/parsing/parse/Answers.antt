use Rattle.resp_parser.proofs.Answered.{only-parsed}
use Rattle.resp_parser.proofs.parsing.parse.Goals as goal

pub returns-clause-only : goal.returns-clause-only
returns-clause-only c = only-parsed c.args.model.now c.args.op.now c.args.reply.now c.parsed.result c.parsed.ensures
