use Rattle.std.proofs.Common.{arith}
use Rattle.model_files.proofs.Plurals.{stays_other, stays_short, lowered_long}
use Rattle.model_files.proofs.names.plural_start.Goals as goal

pub returns-then-last-ne115-clause-none : goal.returns-then-last-ne115-clause-none
returns-then-last-ne115-clause-none c =
    stays_other c.args.chars.now c.in_ok-last.front.now c.in_ok-last.last.now c.in_ok-last.ensures.cases.0 c.if-last-ne115.true

pub returns-then-front-start-ge2-clause-some : goal.returns-then-front-start-ge2-clause-some
returns-then-front-start-ge2-clause-some c =
    lowered_long c.args.chars.now c.in_ok-last.front.now c.in_ok-last.last.now c.capitals_start-start.result
    c.in_ok-last.ensures.cases.0 c.if-last-ne115.false c.capitals_start-start.ensures.value (omega (arith, c.if-front-start-ge2.true))

pub returns-else-front-start-ge2-clause-none : goal.returns-else-front-start-ge2-clause-none
returns-else-front-start-ge2-clause-none c =
    stays_short c.args.chars.now c.in_ok-last.front.now c.in_ok-last.last.now c.capitals_start-start.result
    c.in_ok-last.ensures.cases.0 c.if-last-ne115.false c.capitals_start-start.ensures.value (omega (arith, c.if-front-start-ge2.false))
