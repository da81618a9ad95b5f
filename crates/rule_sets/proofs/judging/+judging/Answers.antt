use Rattle.std.proofs.Common.{refl, sym, ap, subst, ◌∙◌}
use Rattle.rule_sets.specs.BadPlaces.{Judges}
use Rattle.rule_sets.specs.BadRules.{judged_list, judged_rule}
use Rattle.rule_sets.proofs.KnownNames.{left-same, left-within}
use Rattle.rule_sets.proofs.RuleTales.{answer-endpoint, answer-error, list-Items, part-conditions, part-type, rule-Fields, rule-parts}
use Rattle.rule_sets.proofs.judging.+judging.Goals as goal

pub judge_list-returns-clause-judged : goal.judge_list-returns-clause-judged
judge_list-returns-clause-judged t c =
    let known = c.args.names.now in
    subst (Judges c.judge_each_rule.result) (sym (ap (judged_list known) c.in-Items.is ∙ list-Items known c.in-Items.rules)) c.judge_each_rule.ensures.judged

pub judge_rule-returns-clause-judged : goal.judge_rule-returns-clause-judged
judge_rule-returns-clause-judged t c =
    let known = c.args.names.now in
    subst (Judges c.judge_rule_fields.result) (sym (ap (judged_rule known) c.in-Fields.is ∙ rule-Fields known c.in-Fields.fields)) c.judge_rule_fields.ensures.judged

pub judge_rule_part-returns-then-is-clause-judged : goal.judge_rule_part-returns-then-is-clause-judged
judge_rule_part-returns-then-is-clause-judged t c =
    subst (Judges c.judge_kind.result)
    (sym (part-type c.args.kind c.args.conditions.now c.args.names.now c.args.field.now.key c.args.field.now.value (sym (c.is.ensures.ascii refl) ∙ c.if-is.true)))
    c.judge_kind.ensures

pub judge_by_kind-returns-in-Endpoint-clause-judged : goal.judge_by_kind-returns-in-Endpoint-clause-judged
judge_by_kind-returns-in-Endpoint-clause-judged t c =
    subst (Judges c.judge_endpoint.result) (sym (answer-endpoint c.args.kind c.args.names.now c.args.doc.now c.in-Endpoint.is)) c.judge_endpoint.ensures

pub judge_by_kind-returns-in-Error-clause-judged : goal.judge_by_kind-returns-in-Error-clause-judged
judge_by_kind-returns-in-Error-clause-judged t c =
    subst (Judges c.judge_wanted.result) (sym (answer-error c.args.kind c.args.names.now c.args.doc.now c.in-Error.is)) c.judge_wanted.ensures

pub judge_rule_fields-returns-clause-judged : goal.judge_rule_fields-returns-clause-judged
judge_rule_fields-returns-clause-judged t c =
    subst (Judges c.judge_rule_parts.result)
    (sym (rule-parts c.kind_of-kind.result c.conditions_in.result.now c.args.names.now c.args.fields.now c.in_ok-need.ensures c.in_ok-judge_needed.ensures c.kind_of-kind.ensures c.conditions_in.ensures))
    c.judge_rule_parts.ensures.judged

pub judge_rule_part-returns-then-is-2-clause-judged : goal.judge_rule_part-returns-then-is-2-clause-judged
judge_rule_part-returns-then-is-2-clause-judged t c =
    subst (Judges c.judge_conditions.result)
    (sym (part-conditions c.args.kind c.args.conditions.now c.args.names.now c.args.field.now.key c.args.field.now.value (sym (c.is.ensures.ascii refl) ∙ c.if-is.false) (sym (c.is-2.ensures.ascii refl) ∙ c.if-is-2.true)))
    c.judge_conditions.ensures.judged

pub judge_answer-leave-requires : goal.judge_answer-leave-requires
judge_answer-leave-requires t c =
    left-within c.args.conditions.now c.args.names.now c.judge_by_kind.new.names c.len-outer.result c.len-outer.ensures (c.in_ok-judge_by_kind.ensures.kept ∙ c.in_ok-add_all.ensures)

pub judge_answer-returns-clause-kept : goal.judge_answer-returns-clause-kept
judge_answer-returns-clause-kept t c =
    c.leave.ensures
    ∙ left-same c.args.conditions.now c.args.names.now c.judge_by_kind.new.names c.len-outer.result c.len-outer.ensures (c.in_ok-judge_by_kind.ensures.kept ∙ c.in_ok-add_all.ensures)
