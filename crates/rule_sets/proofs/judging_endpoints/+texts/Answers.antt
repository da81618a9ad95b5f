use Rattle.std.proofs.Common.{sym, ap, subst, ◌∙◌}
use Rattle.rule_sets.specs.BadPlaces.{Judges}
use Rattle.rule_sets.specs.BadRules.{judged_texts}
use Rattle.rule_sets.proofs.ArgumentTales.{texts-Items, texts-Fields}
use Rattle.rule_sets.proofs.judging_endpoints.+texts.Goals as goal

pub judge_texts-returns-in-Items : goal.judge_texts-returns-in-Items
judge_texts-returns-in-Items t c =
    subst (Judges c.judge_items.result) (sym (ap (judged_texts c.args.names.now) c.in-Items.is ∙ texts-Items c.args.names.now c.in-Items.items)) c.judge_items.ensures

pub judge_texts-returns-in-Fields : goal.judge_texts-returns-in-Fields
judge_texts-returns-in-Fields t c =
    subst (Judges c.judge_fields.result) (sym (ap (judged_texts c.args.names.now) c.in-Fields.is ∙ texts-Fields c.args.names.now c.in-Fields.fields)) c.judge_fields.ensures
