use Rattle.time_texts.proofs.MarchYears.{early, late}
use Rattle.time_texts.proofs.civil.civil_date.Goals as goal

pub returns-then-month-gt12-clause-day : goal.returns-then-month-gt12-clause-day
returns-then-month-gt12-clause-day c = early c.args.days c.requires c.if-month-gt12.true

pub returns-else-month-gt12-clause-day : goal.returns-else-month-gt12-clause-day
returns-else-month-gt12-clause-day c = late c.args.days c.requires c.if-month-gt12.false
