use Rattle.out_format.proofs.ScalarsOnce.{scalars-once}
use Rattle.out_format.proofs.laws.text_holds_scalars.Goals as goal

pub returns : goal.returns
returns c = scalars-once
