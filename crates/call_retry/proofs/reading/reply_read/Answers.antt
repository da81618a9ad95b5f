use Rattle.resp_parser.proofs.ShortReplies.{short_lists}
use Rattle.call_retry.proofs.reading.reply_read.Goals as goal

pub returns-in-Ok-clause-short : goal.returns-in-Ok-clause-short
returns-in-Ok-clause-short c =
    short_lists c.args.asking.model.now c.args.asking.op.now c.args.reply.now c.in-Ok.doc c.requires.small.0 c.requires.small.1 c.in-Ok.ensures.answer
