use Rattle.rule_sets.specs.BadRules.{judged_rules}
use Rattle.rule_sets.specs.Rules.{whole_rules}
use Rattle.rule_sets.proofs.Outcomes.{read_outcome}
use Rattle.rule_sets.proofs.PlacedRules.{placed-rules}
use Rattle.rule_sets.proofs.laws.rules_have_outcome.Goals as goal

pub returns : goal.returns
returns c = λ doc. read_outcome (judged_rules doc) (whole_rules doc) (placed-rules doc)
