use Rattle.std.proofs.Common.{◌≡◌, sym, subst, rules}
use Rattle.std.specs.Prelude.{codes}
use Rattle.texts.specs.Keys.{value_at}
use Rattle.rule_sets.specs.BadPlaces.{Judges}
use Rattle.rule_sets.specs.Names.{parameter_names}
use Rattle.rule_sets.proofs.RuleTales.{set-parts}
use Rattle.rule_sets.proofs.judging.judge_rules.Goals as goal

pub returns : goal.returns
returns c =
    let fields = c.in_ok-fields.fields.now in
    let named : c.in_ok-names.names ≡ parameter_names (value_at (codes "parameters") fields) = search rules in
    subst (Judges c.judge_parts.result) (sym (set-parts c.args.doc.now fields c.in_ok-names.names c.in_ok-fields.ensures c.in_ok-need.ensures c.in_ok-need-2.ensures named))
    c.judge_parts.ensures
