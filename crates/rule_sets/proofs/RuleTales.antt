-- How rules are judged, layer by layer.
use Rattle.std.proofs.Common.{◌≡◌, ℕ, List, [], ◌∷◌, map, Option, Result, Ok, true, false, sym, ap, ◌∙◌}
use Rattle.std.specs.Prelude.{codes, bytes_eq, if◌then◌else◌}
use Rattle.json_doc.specs.declared.doc.Doc.{Doc}
use Rattle.json_doc.specs.declared.doc.Doc.TheVariants.{Items, Fields}
use Rattle.texts.specs.declared.pairs.Pair.{Pair}
use Rattle.texts.specs.Calls.{◌>>=◌}
use Rattle.texts.specs.Keys.{value_at}
use Rattle.model_files.specs.declared.fault.ModelFault.{ModelFault}
use Rattle.model_files.specs.Reading.{fields_of}
use Rattle.rule_sets.specs.declared.judging.RuleKind.{RuleKind}
use Rattle.rule_sets.specs.declared.judging.RuleKind.TheVariants as kind
use Rattle.rule_sets.specs.BadPlaces.{Judged, fine, first_bad, has_key, each_field, each_item}
use Rattle.rule_sets.specs.BadRules.{conditions_in, has_answer, judged_answer, judged_answer_at, judged_conditions, judged_endpoint, judged_kind, judged_list, judged_part, judged_rule, judged_rule_of, judged_rule_part, judged_rule_with, judged_rules, judged_wanted, kind_of, rule_step}
use Rattle.rule_sets.specs.Names.{Known, parameter_names, with_conditions}
use Rattle.rule_sets.specs.Trees.{told}
use Rattle.rule_sets.proofs.Firsts.{behind_two}
use Rattle.rule_sets.proofs.Tales.{each_field_told, each_item_told, part_same, parts_same, told_field, told_fields, told_items}

pub list-Items : (known : Known) (ds : List Doc) → judged_list known (Items ds) ≡ each_item (judged_rule known) 0 ds
list-Items known ds = ap (λ t. t.tale.rules known) (told_items rule_step ds) ∙ each_item_told rule_step (λ t. t.tale.rule known) 0 ds

pub rule-Fields : (known : Known) (ps : List (Pair Doc)) → judged_rule known (Fields ps) ≡ judged_rule_of known ps
rule-Fields known ps =
    ap (λ t. t.tale.rule known) (told_fields rule_step ps)
    ∙ ap (λ fields. judged_rule_with fields known (map (told_field rule_step) ps)) (parts_same rule_step ps)
    ∙ ap (λ judged. first_bad (has_key (codes "type") ps ∷ has_answer (kind_of ps) ps ∷ judged ∷ [])) (each_field_told rule_step (judged_rule_part (kind_of ps) (conditions_in ps) known) ps)

-- a rule that has what it needs
pub rule-parts : (of_kind : Option RuleKind) (conditions : List Doc) (known : Known) (ps : List (Pair Doc))
    → has_key (codes "type") ps ≡ fine → has_answer of_kind ps ≡ fine → of_kind ≡ kind_of ps → conditions ≡ conditions_in ps
    → judged_rule_of known ps ≡ each_field (λ (key : List ℕ) (d : Doc). judged_rule_part of_kind conditions known key (told rule_step d)) ps
rule-parts of_kind conditions known ps typed answered is are =
    ap (λ k. first_bad (has_key (codes "type") ps ∷ has_answer k ps ∷ each_field (λ (key : List ℕ) (d : Doc). judged_rule_part k (conditions_in ps) known key (told rule_step d)) ps ∷ [])) (sym is)
    ∙ ap (λ cs. first_bad (has_key (codes "type") ps ∷ has_answer of_kind ps ∷ each_field (λ (key : List ℕ) (d : Doc). judged_rule_part of_kind cs known key (told rule_step d)) ps ∷ [])) (sym are)
    ∙ behind_two (has_key (codes "type") ps) (has_answer of_kind ps) (each_field (λ (key : List ℕ) (d : Doc). judged_rule_part of_kind conditions known key (told rule_step d)) ps) typed answered

-- what a part of a rule is judged as, by its key
module _ (of_kind : Option RuleKind) (conditions : List Doc) (known : Known) (key : List ℕ) (d : Doc) where
  abbrev behind_type : Judged
  behind_type =
      if bytes_eq key (codes "conditions") then judged_conditions known (told rule_step d).part else
      judged_answer_at of_kind (with_conditions conditions known) key (told rule_step d)

  pub part-type : bytes_eq key (codes "type") ≡ true → judged_rule_part of_kind conditions known key (told rule_step d) ≡ judged_kind d
  part-type is = ap (λ b. if b then judged_kind (told rule_step d).part else behind_type) is ∙ ap judged_kind (part_same rule_step d)

  pub part-conditions : bytes_eq key (codes "type") ≡ false → bytes_eq key (codes "conditions") ≡ true
      → judged_rule_part of_kind conditions known key (told rule_step d) ≡ judged_conditions known d
  part-conditions other is =
      ap (λ b. if b then judged_kind (told rule_step d).part else behind_type) other
      ∙ ap (λ b. if b then judged_conditions known (told rule_step d).part else judged_answer_at of_kind (with_conditions conditions known) key (told rule_step d)) is
      ∙ ap (judged_conditions known) (part_same rule_step d)

-- what a rule answers with is judged by the rule's kind
module _ (of_kind : RuleKind) (known : Known) (d : Doc) where
  pub answer-endpoint : of_kind ≡ kind.Endpoint → judged_answer of_kind known (told rule_step d) ≡ judged_endpoint known d
  answer-endpoint is = ap (λ k. judged_answer k known (told rule_step d)) is ∙ ap (judged_endpoint known) (part_same rule_step d)

  pub answer-error : of_kind ≡ kind.Error → judged_answer of_kind known (told rule_step d) ≡ judged_wanted known d
  answer-error is = ap (λ k. judged_answer k known (told rule_step d)) is ∙ ap (judged_wanted known) (part_same rule_step d)

-- a rule set that has what it needs
pub set-parts : (doc : Doc) (ps : List (Pair Doc)) (known : Known) → fields_of doc ≡ Ok ps → has_key (codes "parameters") ps ≡ fine → has_key (codes "rules") ps ≡ fine
    → known ≡ parameter_names (value_at (codes "parameters") ps) → judged_rules doc ≡ each_field (judged_part known) ps
set-parts doc ps known is asked ruled named =
    ap (λ (read : Result (List (Pair Doc)) ModelFault).
    read >>= (λ fields. first_bad (has_key (codes "parameters") fields ∷ has_key (codes "rules") fields ∷ each_field (judged_part (parameter_names (value_at (codes "parameters") fields))) fields ∷ []))) is
    ∙ behind_two (has_key (codes "parameters") ps) (has_key (codes "rules") ps) (each_field (judged_part (parameter_names (value_at (codes "parameters") ps))) ps) asked ruled
    ∙ ap (λ names. each_field (judged_part names) ps) (sym named)
