use Rattle.std.proofs.Common.{◌≡◌, refl, ap, ◌∙◌}
use Rattle.std.specs.Prelude.{codes}
use Rattle.texts.proofs.Texts.{chars_ascii}
use Rattle.rule_terms.specs.declared.expression.Expression.{Expression}
use Rattle.rule_terms.specs.Attributes.{member_of}
use Rattle.rule_terms.specs.Seen.{text_in}
use Rattle.rule_sets.specs.declared.rule_set.Condition.{Condition}
use Rattle.rule_sets.specs.Rules.{condition_of, expression_of}
use Rattle.rule_sets.proofs.Mapped.{map-more}
use Rattle.rule_sets.proofs.reading.read_conditions.Goals as goal

pub loop-condition-preserved : goal.loop-condition-preserved
loop-condition-preserved c =
    let d = c.condition-item.result in
    let made : Condition = record { call = c.in_ok-read_expression.field-0; assign = c.in_ok-copied_text.field-0 } in
    let called : made ≡ record { call = expression_of d; assign = c.in_ok-copied_text.field-0 } =
    ap (λ (e : Expression). record { call = e; assign = c.in_ok-copied_text.field-0 }) c.in_ok-read_expression.ensures in
    let assigned = c.in_ok-copied_text.ensures ∙ ap text_in (c.member.ensures ∙ ap (λ k. member_of k d) (chars_ascii (codes "assign") refl)) in
    let says : made ≡ condition_of d = called ∙ ap (λ a. record { call = expression_of d; assign = a }) assigned in
    map-more condition_of c.items_at-condition-items.result.now c.loop-condition.condition-index d c.loop-condition.conditions c.push.new.self made
    c.loop-condition-test.true c.condition-item.is c.in_ok-push.ensures.ok says c.loop-condition.invariant
