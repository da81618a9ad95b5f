use Rattle.std.proofs.Common.{◌≡◌, refl, sym, ap, subst, ◌∙◌}
use Rattle.std.specs.Prelude.{codes, length}
use Rattle.model_files.proofs.Each.{gives_inside}
use Rattle.rule_sets.specs.BadPlaces.{Judges, fine}
use Rattle.rule_sets.specs.BadRules.{judged_argument, judged_arguments, judged_name, judged_number}
use Rattle.rule_sets.proofs.ArgumentTales.{argument-call, argument-reference, arguments-counted, call-parts, call_part-function}
use Rattle.rule_sets.proofs.judging.+arguments.Goals as goal

pub judge_argument-returns-in-Some : goal.judge_argument-returns-in-Some
judge_argument-returns-in-Some t c =
    let known = c.args.names.now in
    let name = c.in-Some.name.now in
    subst (Judges c.inside.result)
    (sym (ap (judged_argument known) c.in-Fields.is ∙ argument-reference known c.in-Fields.fields name (sym (c.in-Some.ensures.ascii refl))))
    (gives_inside (λ x. x) (codes "ref") (judged_name known name) c.judge_name.result c.inside.result c.judge_name.ensures (c.inside.ensures.ascii refl))

pub judge_argument-returns-in-None : goal.judge_argument-returns-in-None
judge_argument-returns-in-None t c =
    let known = c.args.names.now in
    subst (Judges c.judge_call.result)
    (sym (ap (judged_argument known) c.in-Fields.is ∙ argument-call known c.in-Fields.fields (sym (c.in-None.ensures.ascii refl)))) c.judge_call.ensures

pub judge_arguments-returns : goal.judge_arguments-returns
judge_arguments-returns t c =
    let known = c.args.names.now in
    let function = c.args.function in
    let ds = c.in-Items.arguments in
    let counted : judged_number function (length ds) ≡ fine = ap (judged_number function) (sym c.len.ensures) ∙ c.in_ok-judge_number.ensures in
    subst (Judges c.judge_each_argument.result) (sym (ap (judged_arguments function known) c.in-Items.is ∙ arguments-counted function known ds counted))
    c.judge_each_argument.ensures

pub judge_call-returns : goal.judge_call-returns
judge_call-returns t c =
    subst (Judges c.judge_call_parts.result)
    (sym (call-parts c.function_in.result c.args.names.now c.args.fields.now c.in_ok-need.ensures c.in_ok-need-2.ensures c.function_in.ensures))
    c.judge_call_parts.ensures

pub judge_call_part-returns-then-is : goal.judge_call_part-returns-then-is
judge_call_part-returns-then-is t c =
    subst (Judges c.judge_function.result)
    (sym (call_part-function c.args.names.now c.args.function c.args.key.now c.args.doc.now (sym (c.is.ensures.ascii refl) ∙ c.if-is.true)))
    c.judge_function.ensures
