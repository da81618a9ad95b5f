use Rattle.std.proofs.Common.{◌≡◌, ◌++◌, ◌∷◌, [], rules, ap, ◌∙◌}
use Rattle.std.specs.Option.{option_copied}
use Rattle.rule_sets.proofs.KnownNames.{name-added, none-added}
use Rattle.rule_sets.proofs.names.Names.add.Goals as goal

pub returns-in_ok-push : goal.returns-in_ok-push
returns-in_ok-push c =
    let before : c.self.inside.names.items ≡ c.args.self.now = search rules in
    name-added c.args.condition.now c.args.self.now c.push.new.self.items (option_copied c.member.result) c.in_ok-name.field-0 c.in-Some.name
    c.member.ensures c.in_ok-name.ensures c.in-Some.is (c.in_ok-push.ensures.items ∙ ap (λ names. names ++ c.in-Some.name ∷ []) before)

pub returns-in_default : goal.returns-in_default
returns-in_default c =
    none-added c.args.condition.now c.args.self.now (option_copied c.member.result) c.in_ok-name.field-0 c.member.ensures c.in_ok-name.ensures c.in_default.is
