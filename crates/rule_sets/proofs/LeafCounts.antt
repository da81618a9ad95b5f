-- How many leaves rules have.
use Rattle.std.proofs.Common.{◌≡◌, List, map, None, Some, ap, ◌∙◌}
use Rattle.std.specs.Prelude.{codes, option_map}
use Rattle.json_doc.specs.declared.doc.Doc.{Doc}
use Rattle.json_doc.specs.declared.doc.Doc.TheVariants.{Fields}
use Rattle.texts.specs.declared.pairs.Pair.{Pair}
use Rattle.texts.specs.Keys.{value_at}
use Rattle.rule_sets.specs.declared.judging.RuleKind.TheVariants as kind
use Rattle.rule_sets.specs.BadRules.{counted_step, kind_of, leaves_in, leaves_of_rule, rule_leaves, tree_leaves}
use Rattle.rule_sets.specs.Trees.{told}
use Rattle.rule_sets.proofs.Tales.{parts_same, told_at, told_field, told_fields}

rule-told : (ps : List (Pair Doc)) → leaves_of_rule (Fields ps) ≡ rule_leaves (kind_of ps) (map (told_field counted_step) ps)
rule-told ps =
    ap (λ t. t.tale.rule) (told_fields counted_step ps)
    ∙ ap (λ fields. rule_leaves (kind_of fields) (map (told_field counted_step) ps)) (parts_same counted_step ps)

pub leaves-tree : (ps : List (Pair Doc)) (rules : Doc) → kind_of ps ≡ Some kind.Tree → value_at (codes "rules") ps ≡ Some rules → leaves_of_rule (Fields ps) ≡ leaves_in rules
leaves-tree ps rules of_kind at =
    rule-told ps ∙ ap (λ k. rule_leaves k (map (told_field counted_step) ps)) of_kind
    ∙ ap tree_leaves (told_at counted_step (codes "rules") ps ∙ ap (option_map (told counted_step)) at)

pub leaves-bare : (ps : List (Pair Doc)) → kind_of ps ≡ Some kind.Tree → value_at (codes "rules") ps ≡ None → leaves_of_rule (Fields ps) ≡ 0
leaves-bare ps of_kind at =
    rule-told ps ∙ ap (λ k. rule_leaves k (map (told_field counted_step) ps)) of_kind
    ∙ ap tree_leaves (told_at counted_step (codes "rules") ps ∙ ap (option_map (told counted_step)) at)

pub leaves-endpoint : (ps : List (Pair Doc)) → kind_of ps ≡ Some kind.Endpoint → leaves_of_rule (Fields ps) ≡ 1
leaves-endpoint ps of_kind = rule-told ps ∙ ap (λ k. rule_leaves k (map (told_field counted_step) ps)) of_kind

pub leaves-error : (ps : List (Pair Doc)) → kind_of ps ≡ Some kind.Error → leaves_of_rule (Fields ps) ≡ 1
leaves-error ps of_kind = rule-told ps ∙ ap (λ k. rule_leaves k (map (told_field counted_step) ps)) of_kind

pub leaves-none : (ps : List (Pair Doc)) → kind_of ps ≡ None → leaves_of_rule (Fields ps) ≡ 0
leaves-none ps of_kind = rule-told ps ∙ ap (λ k. rule_leaves k (map (told_field counted_step) ps)) of_kind
