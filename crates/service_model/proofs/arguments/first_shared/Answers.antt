use Rattle.std.proofs.Common.{Some, option_map, sym, ap, ◌∙◌}
use Rattle.service_model.specs.Arguments.{is_shared}
use Rattle.service_model.proofs.Clashes.{find_at, find_past, usage_tells}
use Rattle.service_model.proofs.arguments.first_shared.Goals as goal

pub returns-then-branch : goal.returns-then-branch
returns-then-branch c =
    let args = c.args.arguments.now in let i = c.loop-argument.argument-index in let a = c.argument-item.result in
    let told = usage_tells args c.args.usage.now i a c.in_ok-is_shared.field-0 c.requires c.loop-argument-test.true c.argument-item.is c.in_ok-is_shared.ensures in
    let found = find_at (is_shared args) args i a c.loop-argument-test.true c.argument-item.is (sym told ∙ c.if-branch.true) in
    ap Some c.in_ok-copy.ensures ∙ ap (λ first. option_map (λ b. b.name) first) (sym found ∙ c.loop-argument.invariant)

pub loop-argument-preserved : goal.loop-argument-preserved
loop-argument-preserved c =
    let args = c.args.arguments.now in let i = c.loop-argument.argument-index in let a = c.argument-item.result in
    let told = usage_tells args c.args.usage.now i a c.in_ok-is_shared.field-0 c.requires c.loop-argument-test.true c.argument-item.is c.in_ok-is_shared.ensures in
    sym (find_past (is_shared args) args i a c.loop-argument-test.true c.argument-item.is (sym told ∙ c.if-branch.false)) ∙ c.loop-argument.invariant
