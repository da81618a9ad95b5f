use Rattle.service_model.proofs.Plus.{name_of_plus, name_of_other, none_of_none}
use Rattle.service_model.proofs.labels.without_plus.Goals as goal

pub returns-in_default : goal.returns-in_default
returns-in_default c = none_of_none _ c.in_default.ensures.cases

pub returns-then-last-eq43 : goal.returns-then-last-eq43
returns-then-last-eq43 c = name_of_plus c.args.label.now c.in-Some.name.now c.in-Some.last.now c.in-Some.ensures.cases.0 c.if-last-eq43.true

pub returns : goal.returns
returns c = name_of_other c.args.label.now c.in-Some.name.now c.in-Some.last.now c.in-Some.ensures.cases.0 c.if-last-eq43.false
