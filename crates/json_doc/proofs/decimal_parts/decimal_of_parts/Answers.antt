use Rattle.json_doc.specs.Exact.{exact}
use Rattle.json_doc.proofs.Decimals.{Trims, value_if_form, none_if_wide}
use Rattle.json_doc.proofs.decimal_parts.decimal_of_parts.Goals as goal
use Rattle.json_doc.proofs.decimal_parts.decimal_of_parts.Goals.{After-least_form}

trims : (c : After-least_form) → Trims c.args.digits c.trimmed-front.result.0 c.trimmed-front.result.1
trims c = record { trimmed = c.trimmed-front.ensures.trimmed; value = c.trimmed-front.ensures.value }

pub returns-clause-some : goal.returns-clause-some
returns-clause-some c = value_if_form _ (exact c.args.is_negative c.args.digits c.args.up c.args.down) _ _ (trims (goal.at.returns-clause-some c).After-least_form) c.least_form.ensures.some

pub returns-clause-none : goal.returns-clause-none
returns-clause-none c = none_if_wide _ (exact c.args.is_negative c.args.digits c.args.up c.args.down) _ _ (trims (goal.at.returns-clause-none c).After-least_form) c.least_form.ensures.none
