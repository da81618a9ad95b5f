use Rattle.out_format.proofs.Drawn.{filled-empty}
use Rattle.out_format.proofs.section.write_cell.Goals as goal

pub returns-in-None : goal.returns-in-None
returns-in-None c = rw (c.in-None.is, filled-empty c.args.width) c.write_times-in-None.ensures
