use Rattle.arg_table.specs.Lines.{is_paged}
use Rattle.arg_table.proofs.Passing.{none_more, one_here, none_at_all}
use Rattle.arg_table.proofs.table.ArgTable.has_paged.Goals as goal

pub loop-arg-preserved : goal.loop-arg-preserved
loop-arg-preserved c =
    none_more (is_paged c.args.self.now) c.as_slice-args.result.now c.loop-arg.arg-index c.arg-item.result c.is_paged.result
    c.loop-arg-test.true c.arg-item.is c.is_paged.ensures c.if-is_paged.false c.loop-arg.invariant

pub returns-then-is_paged : goal.returns-then-is_paged
returns-then-is_paged c =
    one_here (is_paged c.args.self.now) c.as_slice-args.result.now c.args.line.now.args c.loop-arg.arg-index c.arg-item.result c.is_paged.result
    c.as_slice-args.ensures c.loop-arg-test.true c.arg-item.is c.is_paged.ensures c.if-is_paged.true

pub returns : goal.returns
returns c =
    none_at_all (is_paged c.args.self.now) c.as_slice-args.result.now c.args.line.now.args c.loop-arg.arg-index
    c.as_slice-args.ensures c.loop-arg-test.false c.loop-arg.invariant
