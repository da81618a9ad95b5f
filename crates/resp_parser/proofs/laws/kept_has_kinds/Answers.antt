use Rattle.resp_parser.proofs.KeptKinds.{kinds-kept}
use Rattle.resp_parser.proofs.laws.kept_has_kinds.Goals as goal

pub returns : goal.returns
returns c = λ shapes id d distinct none. kinds-kept shapes distinct d id none
