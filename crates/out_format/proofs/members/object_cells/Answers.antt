use Rattle.texts.specs.Keys.{keys}
use Rattle.out_format.specs.Borrowed.{members_of}
use Rattle.out_format.proofs.Placing.{object_cells-same}
use Rattle.out_format.proofs.members.object_cells.Goals as goal

pub returns : goal.returns
returns c = rw (object_cells-same c.args.doc.now (keys (members_of c.args.columns.now.entries)) (members_of c.in_ok-members.members.entries) c.in_ok-members.ensures.sorted) at c.cells.ensures
