use Rattle.out_format.proofs.FilledCells.{cells-filled}
use Rattle.out_format.proofs.laws.cells_fill_columns.Goals as goal

pub returns : goal.returns
returns c = cells-filled
