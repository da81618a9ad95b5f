use Rattle.std.specs.Option.{option_map}
use Rattle.rule_sets.specs.Rules.{seen_rules}
use Rattle.model_store.specs.Contents.{SaysRules}
use Rattle.model_store.specs.Due.{IfThere, rules_name}
use Rattle.model_store.proofs.Answering.{answers, due_at, failed_at_tail}
use Rattle.model_store.proofs.finding.find_rules.Goals as goal

pub returns-in-Ok-clause-found : goal.returns-in-Ok-clause-found
returns-in-Ok-clause-found g c =
    answers (λ rules. option_map seen_rules rules) (IfThere rules_name SaysRules c.in-Ok.file) _ c.rules_in.result
    (due_at (IfThere rules_name SaysRules) _ c.args.folders.now c.in_ok-tail.tail _ c.in-Ok.file c.in_ok-tail.ensures c.in-Ok.ensures.found) c.rules_in.ensures

pub returns-clause-path : goal.returns-clause-path
returns-clause-path g c = failed_at_tail c.args.folders.now c.in_ok-tail.tail _ c.in-Err.refusal c.in_ok-tail.ensures c.in-Err.ensures.path
