use Rattle.model_files.specs.Faults.{each_from}
use Rattle.model_files.specs.Reading.{text_of}
use Rattle.model_files.proofs.Each.{from_fails}
use Rattle.model_files.proofs.reading.copied_texts.Goals as goal

pub returns-in-Err : goal.returns-in-Err
returns-in-Err c =
    from_fails text_of c.args.items.now c.loop-at.at c.index-items-at.result c.in-Err.fault c.move_to.result c.loop-at.texts
    (each_from text_of 0 c.args.items.now) c.loop-at-test.true c.index-items-at.is c.in-Err.ensures c.move_to.ensures c.loop-at.invariant
