use Rattle.std.proofs.Output.{has_written_append, has_written_of_eq}
use Rattle.arg_table.proofs.Telling.{all_told}
use Rattle.arg_table.proofs.fault.ListedDisplay.fmt.Goals as goal

pub returns-clause-writes : goal.returns-clause-writes
returns-clause-writes g c = λ plain done.
    let one = c.in_ok-write.ensures.writes plain done in
    has_written_of_eq _ _ _ _ _
    (all_told c.args.self.now.0.now c.in-Some.others.now c.in-Some.first.now c.loop-name.name-index c.in-Some.ensures.cases.0 c.loop-name-test.false)
    (has_written_append _ _ _ _ _ _ one (c.loop-name.invariant one.plain))
