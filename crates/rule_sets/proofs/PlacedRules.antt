-- What is due of rule sets is never want of memory.
use Rattle.std.proofs.Common.{ℕ, ◌+◌, Bool, List, [], ◌∷◌, map, length, Option, None, Some, refl, sym, subst}
use Rattle.std.specs.Prelude.{◌||◌, if◌then◌else◌, bytes_eq, codes, is_some, nat_eq, nat_lt, not}
use Rattle.std.specs.Fmt.{decimal}
use Rattle.json_doc.specs.declared.doc.Doc.{Doc, map-Doc, out-Doc, roll-Doc}
use Rattle.json_doc.specs.declared.doc.Doc.TheOpen.{Doc-F}
use Rattle.json_doc.specs.declared.doc.Doc.TheFolds.{fold-roll-Doc, ind-Doc}
use Rattle.texts.specs.declared.pairs.Pair.{Pair}
use Rattle.texts.specs.Keys.{value_at}
use Rattle.model_files.specs.Faults.{inside}
use Rattle.model_files.specs.Reading.{fields_of, items_of, text_of}
use Rattle.rule_terms.specs.declared.function.Function.{Function}
use Rattle.rule_terms.specs.declared.template.Piece.{Piece}
use Rattle.rule_terms.specs.declared.template.Piece.TheVariants.{Char, Named}
use Rattle.rule_terms.specs.Functions.{arity_of, function_named}
use Rattle.rule_terms.specs.Templates.{name_in, pieces_of}
use Rattle.rule_sets.specs.declared.judging.RuleKind.{RuleKind}
use Rattle.rule_sets.specs.declared.judging.RuleKind.TheVariants as kind
use Rattle.rule_sets.specs.BadPlaces.{Judged, bad, each_field, each_item, fine, fine_if, has_key}
use Rattle.rule_sets.specs.BadRules.{ArgumentTale, RuleTale, answer_key, any_flag, any_text, argument_step, conditions_in, function_in, has_answer, has_endpoint, is_flag_in, is_list_in, is_scheme_text, is_text_or_flag_in, is_type, judged_answer, judged_answer_at, judged_argument, judged_argument_in, judged_arguments_in, judged_call_of, judged_call_part, judged_condition, judged_condition_part, judged_conditions, judged_conditions_from, judged_default, judged_endpoint, judged_endpoint_part, judged_function, judged_kind, judged_list, judged_list_in, judged_name, judged_number, judged_parameter, judged_parameter_part, judged_parameters, judged_part, judged_piece, judged_pieces, judged_properties, judged_property, judged_reference, judged_rule_in, judged_rule_part, judged_rules, judged_scheme, judged_scheme_part, judged_scheme_text, judged_schemes, judged_template, judged_text, judged_texts, judged_texts_step, judged_tree, judged_wanted, kind_named, kind_of, leaves_in, may_be_text, rule_step}
use Rattle.rule_sets.specs.Names.{Known, is_known, parameter_names, with_condition, with_conditions}
use Rattle.rule_sets.specs.Trees.{Told, pair_of_part, told, told_step}
use Rattle.rule_sets.proofs.Placed.{IsPlaced, placed-each_field, placed-each_item, placed-fields, placed-first, placed-if, placed-inside, placed-items, placed-key, placed-test, placed-text, placed-then, placed-three, placed-two}
use Rattle.rule_sets.proofs.Tales.{told_field}

pub placed-judged_text : (test : List ℕ → Bool) (d : Doc) → IsPlaced (judged_text test d)
placed-judged_text test d = placed-then (text_of d) (λ text. fine_if (test text)) (placed-text d) (λ text. placed-test (test text))

pub placed-any_text : (d : Doc) → IsPlaced (any_text d)
placed-any_text d = placed-then (text_of d) (λ text. fine) (placed-text d) (λ text. tt)

pub placed-any_flag : (d : Doc) → IsPlaced (any_flag d)
placed-any_flag d = placed-test (is_flag_in (out-Doc d))

-- Parameters.

placed-parameter_part : (is_list : Bool) (key : List ℕ) (d : Doc) → IsPlaced (judged_parameter_part is_list key d)
placed-parameter_part is_list key d =
    placed-if (bytes_eq key (codes "type")) (judged_text is_type d) (if bytes_eq key (codes "required") then (any_flag d) else (if bytes_eq key (codes "builtIn") then (any_text d) else (if bytes_eq key (codes "default") then (judged_default is_list d) else fine))) (placed-judged_text is_type d) (placed-if (bytes_eq key (codes "required")) (any_flag d) (if bytes_eq key (codes "builtIn") then (any_text d) else (if bytes_eq key (codes "default") then (judged_default is_list d) else fine)) (placed-any_flag d) (placed-if (bytes_eq key (codes "builtIn")) (any_text d) (if bytes_eq key (codes "default") then (judged_default is_list d) else fine) (placed-any_text d) (placed-if (bytes_eq key (codes "default")) (judged_default is_list d) fine (placed-test (is_list || is_text_or_flag_in (out-Doc d))) tt)))

placed-parameter : (d : Doc) → IsPlaced (judged_parameter d)
placed-parameter d =
    placed-then (fields_of d) _ (placed-fields d)
    (λ fields.
    placed-two (has_key (codes "type") fields) (each_field (judged_parameter_part (is_list_in fields)) fields) (placed-key (codes "type") fields)
    (placed-each_field (judged_parameter_part (is_list_in fields)) fields (placed-parameter_part (is_list_in fields))))

placed-parameters : (d : Doc) → IsPlaced (judged_parameters d)
placed-parameters d =
    placed-then (fields_of d) _ (placed-fields d)
    (λ fields. placed-each_field (λ (key : List ℕ) (parameter : Doc). judged_parameter parameter) fields (λ key parameter. placed-parameter parameter))

-- Templates, arguments and calls.

placed-piece : (known : Known) (piece : Piece) → IsPlaced (judged_piece known piece)
placed-piece known (Char c) = tt
placed-piece known (Named words) = placed-test (is_known (name_in words) known)

placed-pieces : (known : Known) (pieces : List Piece) → IsPlaced (judged_pieces known pieces)
placed-pieces known [] = tt
placed-pieces known (piece ∷ pieces) = placed-first (judged_piece known piece) (judged_pieces known pieces) (placed-piece known piece) (placed-pieces known pieces)

placed-template : (known : Known) (template : List ℕ) → IsPlaced (judged_template known template)
placed-template known template = placed-pieces known (pieces_of template)

placed-number : (function : Option Function) (n : ℕ) → IsPlaced (judged_number function n)
placed-number None n = tt
placed-number (Some f) n = placed-test (nat_eq n (arity_of f))

-- Documents whose parts are known to be placed.
module _ {A : Type 0} (tell : Doc-F (Told A) → A) (Good : Doc → Type 0) where
  abbrev Part : Type 0
  Part = (d : Doc) × Good d

  abbrev bare : Pair Part → Pair Doc
  bare p = record { key = p.key; value = p.value.0 }

  abbrev told_parts : List Part → List (Told A)
  told_parts es = map (told tell) (map (λ e. e.0) es)

  abbrev told_pairs : List (Pair Part) → List (Pair (Told A))
  told_pairs ps = map (told_field tell) (map bare ps)

  pub placed-told_items : (judge : Told A → Judged) (at : ℕ) (es : List Part) → ((e : Part) → IsPlaced (judge (told tell e.0))) → IsPlaced (each_item judge at (told_parts es))
  placed-told_items judge at [] placed = tt
  placed-told_items judge at (e ∷ es) placed =
      placed-first (inside (decimal at) (judge (told tell e.0))) (each_item judge (at + 1) (told_parts es))
      (placed-inside (decimal at) (judge (told tell e.0)) (placed e)) (placed-told_items judge (at + 1) es placed)

  pub placed-told_fields : (judge : List ℕ → Told A → Judged) (ps : List (Pair Part)) → ((key : List ℕ) (e : Part) → IsPlaced (judge key (told tell e.0))) → IsPlaced (each_field judge (told_pairs ps))
  placed-told_fields judge [] placed = tt
  placed-told_fields judge (p ∷ ps) placed =
      placed-first (inside p.key (judge p.key (told tell p.value.0))) (each_field judge (told_pairs ps))
      (placed-inside p.key (judge p.key (told tell p.value.0)) (placed p.key p.value)) (placed-told_fields judge ps placed)

abbrev GoodArgument : Doc → Type 0
GoodArgument d = ((known : Known) → IsPlaced ((told argument_step d).tale.one known))
    × ((function : Option Function) (known : Known) → IsPlaced ((told argument_step d).tale.many function known))

abbrev Argument : Type 0
Argument = (d : Doc) × GoodArgument d

placed-call_part : (known : Known) (function : Option Function) (key : List ℕ) (e : Argument) → IsPlaced (judged_call_part known function key (told argument_step e.0))
placed-call_part known function key e =
    placed-if (bytes_eq key (codes "fn")) (judged_function (told argument_step e.0).part) (if bytes_eq key (codes "argv") then ((told argument_step e.0).tale.many function known) else fine) (placed-judged_text (λ name. is_some (function_named name)) (told argument_step e.0).part) (placed-if (bytes_eq key (codes "argv")) ((told argument_step e.0).tale.many function known) fine (e.1.1 function known) tt)

placed-call : (known : Known) (ps : List (Pair Argument)) → IsPlaced (judged_call_of known (told_pairs argument_step GoodArgument ps))
placed-call known ps =
    let ts = told_pairs argument_step GoodArgument ps in
    let function = function_in (value_at (codes "fn") (map pair_of_part ts)) in
    placed-three (has_key (codes "fn") ts) (has_key (codes "argv") ts) (each_field (judged_call_part known function) ts)
    (placed-key (codes "fn") ts) (placed-key (codes "argv") ts)
    (placed-told_fields argument_step GoodArgument (judged_call_part known function) ps (placed-call_part known function))

placed-reference : (known : Known) (ps : List (Pair Argument)) (name : Option (Told ArgumentTale)) → IsPlaced (judged_reference known (told_pairs argument_step GoodArgument ps) name)
placed-reference known ps None = placed-call known ps
placed-reference known ps (Some name) = placed-inside (codes "ref") (judged_name known name.part) (placed-judged_text (λ text. is_known text known) name.part)

abbrev argument_parts : Doc-F Argument → Doc-F (Told ArgumentTale)
argument_parts y = map-Doc Doc (Told ArgumentTale) (told argument_step) (map-Doc Argument Doc (λ e. e.0) y)

argument-one : (y : Doc-F Argument) (known : Known) → IsPlaced (judged_argument_in known (argument_parts y))
argument-one Doc-F.Null known = tt
argument-one (Doc-F.Flag flag) known = tt
argument-one (Doc-F.Number n) known = tt
argument-one (Doc-F.Str t) known = placed-template known t
argument-one (Doc-F.Items es) known = refl
argument-one (Doc-F.Fields ps) known = placed-reference known ps (value_at (codes "ref") (told_pairs argument_step GoodArgument ps))

argument-many : (y : Doc-F Argument) (function : Option Function) (known : Known) → IsPlaced (judged_arguments_in function known (argument_parts y))
argument-many Doc-F.Null function known = refl
argument-many (Doc-F.Flag flag) function known = refl
argument-many (Doc-F.Number n) function known = refl
argument-many (Doc-F.Str t) function known = refl
argument-many (Doc-F.Items es) function known =
    let ts = told_parts argument_step GoodArgument es in
    placed-first (judged_number function (length ts)) (each_item (λ (t : Told ArgumentTale). t.tale.one known) 0 ts) (placed-number function (length ts))
    (placed-told_items argument_step GoodArgument (λ (t : Told ArgumentTale). t.tale.one known) 0 es (λ e. e.1.0 known))
argument-many (Doc-F.Fields ps) function known = refl

argument-layer : (y : Doc-F Argument) → GoodArgument (roll-Doc (map-Doc Argument Doc (λ e. e.0) y))
argument-layer y =
    let same = sym (fold-roll-Doc (Told ArgumentTale) (told_step argument_step) (map-Doc Argument Doc (λ e. e.0) y)) in (
      λ known. subst (λ (t : Told ArgumentTale). IsPlaced (t.tale.one known)) same (argument-one y known),
      λ function known. subst (λ (t : Told ArgumentTale). IsPlaced (t.tale.many function known)) same (argument-many y function known),
    )

pub placed-arguments : (d : Doc) → GoodArgument d
placed-arguments = ind-Doc GoodArgument (λ x y is. subst (λ z. GoodArgument (roll-Doc z)) is (argument-layer y))

placed-wanted : (known : Known) (d : Doc) → IsPlaced (judged_wanted known d)
placed-wanted known d = placed-if (may_be_text (out-Doc d)) (judged_argument known d) bad ((placed-arguments d).0 known) refl

-- Conditions.

placed-condition_part : (known : Known) (function : Option Function) (key : List ℕ) (d : Doc) → IsPlaced (judged_condition_part known function key d)
placed-condition_part known function key d =
    placed-if (bytes_eq key (codes "assign")) (any_text d) (judged_call_part known function key (told argument_step d)) (placed-any_text d)
    (placed-call_part known function key (d, placed-arguments d))

placed-condition : (known : Known) (d : Doc) → IsPlaced (judged_condition known d)
placed-condition known d =
    placed-then (fields_of d) _ (placed-fields d)
    (λ fields.
    let judge = judged_condition_part known (function_in (value_at (codes "fn") fields)) in
    placed-three (has_key (codes "fn") fields) (has_key (codes "argv") fields) (each_field judge fields) (placed-key (codes "fn") fields) (placed-key (codes "argv") fields)
    (placed-each_field judge fields (placed-condition_part known (function_in (value_at (codes "fn") fields)))))

placed-conditions_from : (at : ℕ) (known : Known) (cs : List Doc) → IsPlaced (judged_conditions_from at known cs)
placed-conditions_from at known [] = tt
placed-conditions_from at known (c ∷ cs) =
    placed-first (inside (decimal at) (judged_condition known c)) (judged_conditions_from (at + 1) (with_condition c known) cs)
    (placed-inside (decimal at) (judged_condition known c) (placed-condition known c)) (placed-conditions_from (at + 1) (with_condition c known) cs)

placed-conditions : (known : Known) (d : Doc) → IsPlaced (judged_conditions known d)
placed-conditions known d = placed-then (items_of d) (judged_conditions_from 0 known) (placed-items d) (placed-conditions_from 0 known)

-- Endpoints.

abbrev GoodTexts : Doc → Type 0
GoodTexts d = (known : Known) → IsPlaced (judged_texts known d)

abbrev Texts : Type 0
Texts = (d : Doc) × GoodTexts d

abbrev told_text : Doc → Known → Judged
told_text d known = judged_texts known d

abbrev told_text_pair : Pair Texts → Pair (Known → Judged)
told_text_pair p = record { key = p.key; value = told_text p.value.0 }

texts_in_items : (known : Known) (at : ℕ) (es : List Texts) → IsPlaced (each_item (λ (f : Known → Judged). f known) at (map told_text (map (λ e. e.0) es)))
texts_in_items known at [] = tt
texts_in_items known at (e ∷ es) =
    placed-first (inside (decimal at) (judged_texts known e.0)) (each_item (λ (f : Known → Judged). f known) (at + 1) (map told_text (map (λ e. e.0) es)))
    (placed-inside (decimal at) (judged_texts known e.0) (e.1 known)) (texts_in_items known (at + 1) es)

abbrev bare_text : Pair Texts → Pair Doc
bare_text p = record { key = p.key; value = p.value.0 }

abbrev text_field : Pair Doc → Pair (Known → Judged)
text_field p = record { key = p.key; value = told_text p.value }

texts_in_fields : (known : Known) (ps : List (Pair Texts)) → IsPlaced (each_field (λ (key : List ℕ) (f : Known → Judged). f known) (map text_field (map bare_text ps)))
texts_in_fields known [] = tt
texts_in_fields known (p ∷ ps) =
    placed-first (inside p.key (judged_texts known p.value.0)) (each_field (λ (key : List ℕ) (f : Known → Judged). f known) (map text_field (map bare_text ps)))
    (placed-inside p.key (judged_texts known p.value.0) (p.value.1 known)) (texts_in_fields known ps)

texts-in : (y : Doc-F Texts) (known : Known) → IsPlaced (judged_texts_step (map-Doc Doc (Known → Judged) told_text (map-Doc Texts Doc (λ e. e.0) y)) known)
texts-in Doc-F.Null known = tt
texts-in (Doc-F.Flag flag) known = tt
texts-in (Doc-F.Number n) known = tt
texts-in (Doc-F.Str t) known = placed-template known t
texts-in (Doc-F.Items es) known = texts_in_items known 0 es
texts-in (Doc-F.Fields ps) known = texts_in_fields known ps

texts-layer : (y : Doc-F Texts) → GoodTexts (roll-Doc (map-Doc Texts Doc (λ e. e.0) y))
texts-layer y = λ known.
    subst (λ (f : Known → Judged). IsPlaced (f known)) (sym (fold-roll-Doc (Known → Judged) judged_texts_step (map-Doc Texts Doc (λ e. e.0) y))) (texts-in y known)

placed-texts : (d : Doc) → GoodTexts d
placed-texts = ind-Doc GoodTexts (λ x y is. subst (λ z. GoodTexts (roll-Doc z)) is (texts-layer y))

placed-scheme_part : (known : Known) (key : List ℕ) (d : Doc) → IsPlaced (judged_scheme_part known key d)
placed-scheme_part known key d =
    placed-first (judged_scheme_text key d) (judged_texts known d) (placed-if (is_scheme_text key) (any_text d) fine (placed-any_text d) tt) (placed-texts d known)

placed-scheme : (known : Known) (d : Doc) → IsPlaced (judged_scheme known d)
placed-scheme known d =
    placed-then (fields_of d) (each_field (judged_scheme_part known)) (placed-fields d) (λ fields. placed-each_field (judged_scheme_part known) fields (placed-scheme_part known))

placed-schemes : (known : Known) (d : Doc) → IsPlaced (judged_schemes known d)
placed-schemes known d =
    placed-then (items_of d) (each_item (judged_scheme known) 0) (placed-items d) (λ schemes. placed-each_item (judged_scheme known) 0 schemes (placed-scheme known))

placed-property : (known : Known) (key : List ℕ) (d : Doc) → IsPlaced (judged_property known key d)
placed-property known key d = placed-if (bytes_eq key (codes "authSchemes")) (judged_schemes known d) fine (placed-schemes known d) tt

placed-properties : (known : Known) (d : Doc) → IsPlaced (judged_properties known d)
placed-properties known d =
    placed-then (fields_of d) (each_field (judged_property known)) (placed-fields d) (λ fields. placed-each_field (judged_property known) fields (placed-property known))

placed-endpoint_part : (known : Known) (key : List ℕ) (d : Doc) → IsPlaced (judged_endpoint_part known key d)
placed-endpoint_part known key d =
    placed-if (bytes_eq key (codes "url")) (judged_wanted known d) (if bytes_eq key (codes "properties") then (judged_properties known d) else fine) (placed-wanted known d) (placed-if (bytes_eq key (codes "properties")) (judged_properties known d) fine (placed-properties known d) tt)

placed-endpoint : (known : Known) (d : Doc) → IsPlaced (judged_endpoint known d)
placed-endpoint known d =
    placed-then (fields_of d) _ (placed-fields d)
    (λ fields.
    placed-two (has_key (codes "url") fields) (each_field (judged_endpoint_part known) fields) (placed-key (codes "url") fields)
    (placed-each_field (judged_endpoint_part known) fields (placed-endpoint_part known)))

-- Rules.

has_endpoint-placed : (o : Option Doc) → IsPlaced (has_endpoint o)
has_endpoint-placed None = refl
has_endpoint-placed (Some d) = tt

has_answer-placed : (of_kind : Option RuleKind) (ps : List (Pair Doc)) → IsPlaced (has_answer of_kind ps)
has_answer-placed None ps = tt
has_answer-placed (Some kind.Endpoint) ps = has_endpoint-placed (value_at (codes "endpoint") ps)
has_answer-placed (Some kind.Error) ps = placed-key (codes "error") ps
has_answer-placed (Some kind.Tree) ps = placed-key (codes "rules") ps

abbrev GoodRule : Doc → Type 0
GoodRule d = ((known : Known) → IsPlaced ((told rule_step d).tale.rule known)) × ((known : Known) → IsPlaced ((told rule_step d).tale.rules known))

abbrev Rule : Type 0
Rule = (d : Doc) × GoodRule d

placed-answer : (of_kind : RuleKind) (known : Known) (e : Rule) → IsPlaced (judged_answer of_kind known (told rule_step e.0))
placed-answer kind.Endpoint known e = placed-endpoint known (told rule_step e.0).part
placed-answer kind.Error known e = placed-wanted known (told rule_step e.0).part
placed-answer kind.Tree known e = e.1.1 known

placed-answer_at : (of_kind : Option RuleKind) (known : Known) (key : List ℕ) (e : Rule) → IsPlaced (judged_answer_at of_kind known key (told rule_step e.0))
placed-answer_at None known key e = tt
placed-answer_at (Some k) known key e = placed-if (bytes_eq key (answer_key k)) (judged_answer k known (told rule_step e.0)) fine (placed-answer k known e) tt

placed-rule_part : (of_kind : Option RuleKind) (conditions : List Doc) (known : Known) (key : List ℕ) (e : Rule)
    → IsPlaced (judged_rule_part of_kind conditions known key (told rule_step e.0))
placed-rule_part of_kind conditions known key e =
    placed-if (bytes_eq key (codes "type")) (judged_kind (told rule_step e.0).part) (if bytes_eq key (codes "conditions") then (judged_conditions known (told rule_step e.0).part) else (judged_answer_at of_kind (with_conditions conditions known) key (told rule_step e.0))) (placed-judged_text (λ name. is_some (kind_named name)) (told rule_step e.0).part) (placed-if (bytes_eq key (codes "conditions")) (judged_conditions known (told rule_step e.0).part) (judged_answer_at of_kind (with_conditions conditions known) key (told rule_step e.0)) (placed-conditions known (told rule_step e.0).part) (placed-answer_at of_kind (with_conditions conditions known) key e))

abbrev rule_parts : Doc-F Rule → Doc-F (Told RuleTale)
rule_parts y = map-Doc Doc (Told RuleTale) (told rule_step) (map-Doc Rule Doc (λ e. e.0) y)

rule-one : (y : Doc-F Rule) (known : Known) → IsPlaced (judged_rule_in known (rule_parts y))
rule-one Doc-F.Null known = refl
rule-one (Doc-F.Flag flag) known = refl
rule-one (Doc-F.Number n) known = refl
rule-one (Doc-F.Str t) known = refl
rule-one (Doc-F.Items es) known = refl
rule-one (Doc-F.Fields ps) known =
    let ts = told_pairs rule_step GoodRule ps in
    let fields = map pair_of_part ts in
    let judge = judged_rule_part (kind_of fields) (conditions_in fields) known in
    placed-three (has_key (codes "type") fields) (has_answer (kind_of fields) fields) (each_field judge ts)
    (placed-key (codes "type") fields) (has_answer-placed (kind_of fields) fields)
    (placed-told_fields rule_step GoodRule judge ps (placed-rule_part (kind_of fields) (conditions_in fields) known))

rule-list : (y : Doc-F Rule) (known : Known) → IsPlaced (judged_list_in known (rule_parts y))
rule-list Doc-F.Null known = refl
rule-list (Doc-F.Flag flag) known = refl
rule-list (Doc-F.Number n) known = refl
rule-list (Doc-F.Str t) known = refl
rule-list (Doc-F.Items es) known = placed-told_items rule_step GoodRule (λ (t : Told RuleTale). t.tale.rule known) 0 es (λ e. e.1.0 known)
rule-list (Doc-F.Fields ps) known = refl

rule-layer : (y : Doc-F Rule) → GoodRule (roll-Doc (map-Doc Rule Doc (λ e. e.0) y))
rule-layer y =
    let same = sym (fold-roll-Doc (Told RuleTale) (told_step rule_step) (map-Doc Rule Doc (λ e. e.0) y)) in (
      λ known. subst (λ (t : Told RuleTale). IsPlaced (t.tale.rule known)) same (rule-one y known),
      λ known. subst (λ (t : Told RuleTale). IsPlaced (t.tale.rules known)) same (rule-list y known),
    )

placed-rule : (d : Doc) → GoodRule d
placed-rule = ind-Doc GoodRule (λ x y is. subst (λ z. GoodRule (roll-Doc z)) is (rule-layer y))

placed-part : (known : Known) (key : List ℕ) (d : Doc) → IsPlaced (judged_part known key d)
placed-part known key d =
    placed-if (bytes_eq key (codes "parameters")) (judged_parameters d) (if bytes_eq key (codes "rules") then (judged_tree known d) else fine) (placed-parameters d) (placed-if (bytes_eq key (codes "rules")) (judged_tree known d) fine (placed-first (fine_if (not (nat_lt 100000 (leaves_in d)))) (judged_list known d) (placed-test (not (nat_lt 100000 (leaves_in d)))) ((placed-rule d).1 known)) tt)

pub placed-rules : (d : Doc) → IsPlaced (judged_rules d)
placed-rules d =
    placed-then (fields_of d) _ (placed-fields d)
    (λ fields.
    let judge = judged_part (parameter_names (value_at (codes "parameters") fields)) in
    placed-three (has_key (codes "parameters") fields) (has_key (codes "rules") fields) (each_field judge fields)
    (placed-key (codes "parameters") fields) (placed-key (codes "rules") fields)
    (placed-each_field judge fields (placed-part (parameter_names (value_at (codes "parameters") fields)))))
