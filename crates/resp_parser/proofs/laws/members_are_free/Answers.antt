use Rattle.resp_parser.proofs.AnyOrder.{any_order}
use Rattle.resp_parser.proofs.laws.members_are_free.Goals as goal

pub returns : goal.returns
returns c = any_order
