use Rattle.model_files.specs.Faults.{each_from}
use Rattle.model_files.proofs.Each.{from_fails}
use Rattle.service_model.specs.Shapes.{name_among}
use Rattle.service_model.proofs.shapes.names_listed.Goals as goal

pub returns-in-Err : goal.returns-in-Err
returns-in-Err c =
    from_fails (name_among c.args.names.now.keys) c.args.items.now c.loop-at.at c.index-items-at.result c.in-Err.fault c.move_to.result c.loop-at.listed
    (each_from (name_among c.args.names.now.keys) 0 c.args.items.now) c.loop-at-test.true c.index-items-at.is c.in-Err.ensures c.move_to.ensures c.loop-at.invariant
