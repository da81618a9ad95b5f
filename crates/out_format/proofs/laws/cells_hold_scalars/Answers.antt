use Rattle.out_format.proofs.HeldCells.{scalars-held}
use Rattle.out_format.proofs.laws.cells_hold_scalars.Goals as goal

pub returns : goal.returns
returns c = scalars-held
