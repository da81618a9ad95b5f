-- All leaves of a rule set.
use Rattle.std.proofs.Common.{◌≡◌, ℕ, List, [], ◌++◌, map, Ok, sym, ap, ◌∙◌}
use Rattle.std.specs.Prelude.{codes}
use Rattle.json_doc.specs.declared.doc.Doc.{Doc}
use Rattle.rule_terms.specs.Seen.{items_at}
use Rattle.rule_sets.specs.declared.rule_set.Leaf.{Leaf}
use Rattle.rule_sets.specs.declared.rule_set.Parameter.{Parameter}
use Rattle.rule_sets.specs.declared.rule_set.RuleSet.{RuleSet}
use Rattle.rule_sets.specs.BadPlaces.{fine}
use Rattle.rule_sets.specs.BadRules.{judged_rules}
use Rattle.rule_sets.specs.Cuts.{IsCut}
use Rattle.rule_sets.specs.Faults.{read_unless}
use Rattle.rule_sets.specs.Rules.{Rules, WholeLeaf, leaves_below, parameters_of, path_of, rules_of, seen_leaf, seen_leaves, seen_rules, whole_rules}

abbrev with_leaves : List Parameter → List WholeLeaf → Rules
with_leaves parameters leaves = record { parameters = parameters; leaves = leaves }

-- rules that were cut from none are what the file says
pub whole-cut : (start now : RuleSet) (file : Doc) (path place : List ℕ) (ds : List Doc) → start.leaves ≡ [] → path ≡ [] → start.parameters ≡ parameters_of file
    → place ≡ codes "rules" → ds ≡ items_at (codes "rules") file → judged_rules file ≡ fine
    → IsCut start now (leaves_below (path_of start.conditions path) place 0 ds) → rules_of file ≡ Ok (seen_rules now)
whole-cut start now file path place ds none outermost parameters at same good cut =
    let leaves : leaves_below [] (codes "rules") 0 (items_at (codes "rules") file) ≡ seen_leaves now =
    ap (λ xs. leaves_below [] (codes "rules") 0 xs) (sym same) ∙ ap (λ p. leaves_below [] p 0 ds) (sym at)
    ∙ ap (λ ns. leaves_below (path_of start.conditions ns) place 0 ds) (sym outermost)
    ∙ ap (λ (ls : List Leaf). map (seen_leaf start.conditions) ls ++ leaves_below (path_of start.conditions path) place 0 ds) (sym none) ∙ sym cut.behind in
    ap (λ judged. read_unless judged (whole_rules file)) good
    ∙ ap (λ ls. Ok (with_leaves (parameters_of file) ls)) leaves
    ∙ ap (λ ps. Ok (with_leaves ps (seen_leaves now))) (sym (cut.parameters ∙ parameters))
