use Rattle.resp_parser.proofs.ShortReplies.{short_heads, short_lists}
use Rattle.resp_parser.proofs.laws.lists_are_short.Goals as goal

pub returns-clause-whole : goal.returns-clause-whole
returns-clause-whole c = short_lists

pub returns-clause-head : goal.returns-clause-head
returns-clause-head c = short_heads
