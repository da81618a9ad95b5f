use Rattle.out_format.proofs.Literals.{chars-none}
use Rattle.out_format.proofs.cell.Cell.as_str.Goals as goal

pub returns-in-Empty : goal.returns-in-Empty
returns-in-Empty c = rw c.in-Empty.is chars-none
