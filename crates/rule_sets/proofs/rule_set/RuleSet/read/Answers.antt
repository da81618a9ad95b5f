use Rattle.std.proofs.Common.{◌≡◌, [], rules}
use Rattle.std.specs.Prelude.{codes}
use Rattle.texts.proofs.Texts.{chars_ascii}
use Rattle.rule_sets.specs.declared.rule_set.RuleSet.{RuleSet}
use Rattle.rule_sets.proofs.WholeRules.{whole-cut}
use Rattle.rule_sets.proofs.rule_set.RuleSet.read.Goals as goal

pub returns : goal.returns
returns c =
    let start : RuleSet = record { parameters = c.in_ok-read_parameters.field-0; conditions = c.new.result; leaves = c.new-2.result } in
    let none : start.leaves ≡ [] = search rules in
    let outermost : c.new-path.result ≡ [] = search rules in
    let at : c.in_ok-place.place ≡ codes "rules" = search (rules, chars_ascii) in
    whole-cut start c.cut_rules.new.rules c.args.doc.now c.new-path.result c.in_ok-place.place c.items_at.result.now none outermost c.in_ok-read_parameters.ensures at c.items_at.ensures c.in_default.ensures
    c.in_ok-cut_rules.ensures
