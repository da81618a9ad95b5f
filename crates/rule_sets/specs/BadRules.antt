-- The first bad place of a rule set.
use Rattle.std.specs.Prelude.{ℕ, ◌+◌, ◌||◌, Bool, true, false, not, nat_eq, nat_lt, if◌then◌else◌, List, [], ◌∷◌, map, length, Option, None, Some, is_some, option_and_then, codes, bytes_eq, encode_utf8_all, sum, Err}
use Rattle.std.specs.Char.{to_ascii_lowercase}
use Rattle.std.specs.Fmt.{decimal}
use Rattle.json_doc.specs.declared.doc.Doc.{Doc}
use Rattle.json_doc.specs.declared.doc.Doc.TheOpen.{Doc-F}
use Rattle.json_doc.specs.declared.doc.Doc.TheFolds.{fold-Doc}
use Rattle.json_doc.specs.declared.doc.Doc.TheViews.{out-Doc}
use Rattle.texts.specs.declared.pairs.Pair.{Pair}
use Rattle.texts.specs.Calls.{◌>>=◌}
use Rattle.texts.specs.Keys.{value_at}
use Rattle.model_files.specs.declared.fault.ModelFault.TheVariants.{Missing}
use Rattle.model_files.specs.declared.fault.Place.TheVariants.{At}
use Rattle.model_files.specs.Faults.{inside, below}
use Rattle.model_files.specs.Reading.{fields_of, items_of, text_of}
use Rattle.rule_terms.specs.declared.function.Function.{Function}
use Rattle.rule_terms.specs.declared.template.Piece.{Piece}
use Rattle.rule_terms.specs.declared.template.Piece.TheVariants.{Char, Named}
use Rattle.rule_terms.specs.Functions.{function_named, arity_of}
use Rattle.rule_terms.specs.Seen.{text_in, or_empty, items_kind}
use Rattle.rule_terms.specs.Templates.{pieces_of, name_in}
use Rattle.rule_sets.specs.declared.judging.RuleKind.{RuleKind}
use Rattle.rule_sets.specs.declared.judging.RuleKind.TheVariants as kind
use Rattle.rule_sets.specs.BadPlaces.{Judged, fine, bad, fine_if, first_of, first_bad, has_key, each_field, each_item}
use Rattle.rule_sets.specs.Names.{Known, is_known, with_condition, with_conditions, parameter_names}
use Rattle.rule_sets.specs.Trees.{Told, pair_of_part, told, tale_of}

-- Texts and flags.

-- a text of which a test holds
abbrev pub judged_text : (List ℕ → Bool) → Doc → Judged
judged_text test doc = do
  text ← text_of doc
  fine_if (test text)

abbrev pub any_text : Doc → Judged
any_text doc = do
  text ← text_of doc
  fine

abbrev pub is_flag_in : Doc-F Doc → Bool
is_flag_in (Doc-F.Flag b) = true
is_flag_in others = false

abbrev pub any_flag : Doc → Judged
any_flag doc = fine_if (is_flag_in (out-Doc doc))

abbrev pub any_fields : Doc → Judged
any_fields doc = do
  fields ← fields_of doc
  fine

abbrev pub is_word_in_any_case : List ℕ → List ℕ → Bool
is_word_in_any_case word text = bytes_eq (map to_ascii_lowercase (encode_utf8_all text)) (map to_ascii_lowercase word)

-- Parameters.

abbrev pub is_list_type : List ℕ → Bool
is_list_type text = is_word_in_any_case (codes "stringArray") text

-- the types, in any letter case
abbrev pub is_type : List ℕ → Bool
is_type text = is_word_in_any_case (codes "string") text || is_word_in_any_case (codes "boolean") text || is_list_type text

abbrev pub is_text_or_flag_in : Doc-F Doc → Bool
is_text_or_flag_in (Doc-F.Str t) = true
is_text_or_flag_in (Doc-F.Flag b) = true
is_text_or_flag_in others = false

-- a default is a text or a truth value; that of a list of texts isn't looked at
abbrev pub judged_default : Bool → Doc → Judged
judged_default is_list doc = fine_if (is_list || is_text_or_flag_in (out-Doc doc))

abbrev pub judged_parameter_part : Bool → List ℕ → Doc → Judged
judged_parameter_part is_list key doc =
    if bytes_eq key (codes "type") then judged_text is_type doc else
    if bytes_eq key (codes "required") then any_flag doc else
    if bytes_eq key (codes "builtIn") then any_text doc else
    if bytes_eq key (codes "default") then judged_default is_list doc else fine

abbrev pub is_list_in : List (Pair Doc) → Bool
is_list_in fields = is_list_type (or_empty (text_in (value_at (codes "type") fields)))

abbrev pub judged_parameter : Doc → Judged
judged_parameter doc = do
  fields ← fields_of doc
  first_bad (has_key (codes "type") fields ∷ each_field (judged_parameter_part (is_list_in fields)) fields ∷ [])

abbrev pub judged_parameters : Doc → Judged
judged_parameters doc = do
  fields ← fields_of doc
  each_field (λ key parameter. judged_parameter parameter) fields

-- Templates, arguments and calls.

abbrev pub judged_piece : Known → Piece → Judged
judged_piece known (Char c) = fine
judged_piece known (Named words) = fine_if (is_known (name_in words) known)

abbrev pub judged_pieces : Known → List Piece → Judged
judged_pieces known [] = fine
judged_pieces known (piece ∷ pieces) = first_of (judged_piece known piece) (judged_pieces known pieces)

-- a template is bad itself where a name isn't known
abbrev pub judged_template : Known → List ℕ → Judged
judged_template known template = judged_pieces known (pieces_of template)

-- what is told of a document: as an argument, and as a list of arguments of a function
pub record ArgumentTale : Type 0 where
  pub one : Known → Judged
  pub many : Option Function → Known → Judged

abbrev pub judged_name : Known → Doc → Judged
judged_name known doc = judged_text (λ name. is_known name known) doc

abbrev pub judged_function : Doc → Judged
judged_function doc = judged_text (λ name. is_some (function_named name)) doc

abbrev pub judged_call_part : Known → Option Function → List ℕ → Told ArgumentTale → Judged
judged_call_part known function key told =
    if bytes_eq key (codes "fn") then judged_function told.part else
    if bytes_eq key (codes "argv") then told.tale.many function known else fine

abbrev pub function_in : Option Doc → Option Function
function_in name = option_and_then function_named (text_in name)

-- a call has a function and as many arguments as it takes
abbrev pub judged_call_of : Known → List (Pair (Told ArgumentTale)) → Judged
judged_call_of known ps = first_bad
    (has_key (codes "fn") ps
    ∷ has_key (codes "argv") ps
    ∷ each_field (judged_call_part known (function_in (value_at (codes "fn") (map pair_of_part ps)))) ps ∷ [])

abbrev pub judged_reference : Known → List (Pair (Told ArgumentTale)) → Option (Told ArgumentTale) → Judged
judged_reference known ps None = judged_call_of known ps
judged_reference known ps (Some name) = inside (codes "ref") (judged_name known name.part)

-- an argument is null, a truth value, a number, a template, a name or a call
abbrev pub judged_argument_in : Known → Doc-F (Told ArgumentTale) → Judged
judged_argument_in known (Doc-F.Str template) = judged_template known template
judged_argument_in known (Doc-F.Items ts) = bad
judged_argument_in known (Doc-F.Fields ps) = judged_reference known ps (value_at (codes "ref") ps)
judged_argument_in known others = fine

abbrev pub judged_number : Option Function → ℕ → Judged
judged_number None n = fine
judged_number (Some f) n = fine_if (nat_eq n (arity_of f))

abbrev pub judged_arguments_in : Option Function → Known → Doc-F (Told ArgumentTale) → Judged
judged_arguments_in function known (Doc-F.Items ts) = first_of (judged_number function (length ts)) (each_item (λ t. t.tale.one known) 0 ts)
judged_arguments_in function known others = bad

abbrev pub argument_step : Doc-F (Told ArgumentTale) → ArgumentTale
argument_step parts = record {
  one = λ known. judged_argument_in known parts;
  many = λ function known. judged_arguments_in function known parts;
}

abbrev pub judged_argument : Known → Doc → Judged
judged_argument known doc = (tale_of argument_step doc).one known

-- the arguments of a function
abbrev pub judged_arguments : Option Function → Known → Doc → Judged
judged_arguments function known doc = (tale_of argument_step doc).many function known

-- a call by its fields
abbrev pub judged_call : Known → List (Pair Doc) → Judged
judged_call known fields = first_bad
    (has_key (codes "fn") fields
    ∷ has_key (codes "argv") fields
    ∷ each_field (λ key doc. judged_call_part known (function_in (value_at (codes "fn") fields)) key (told argument_step doc)) fields ∷ [])

abbrev pub may_be_text : Doc-F Doc → Bool
may_be_text (Doc-F.Str t) = true
may_be_text (Doc-F.Fields ps) = true
may_be_text others = false

-- where a text is wanted: a template, a name or a call
abbrev pub judged_wanted : Known → Doc → Judged
judged_wanted known doc = if may_be_text (out-Doc doc) then judged_argument known doc else bad

-- Conditions.

abbrev pub judged_condition_part : Known → Option Function → List ℕ → Doc → Judged
judged_condition_part known function key doc =
    if bytes_eq key (codes "assign") then any_text doc else
    judged_call_part known function key (told argument_step doc)

-- a condition is a call, with a name for its value or without
abbrev pub judged_condition : Known → Doc → Judged
judged_condition known doc = do
  fields ← fields_of doc
  first_bad
      (has_key (codes "fn") fields
      ∷ has_key (codes "argv") fields
      ∷ each_field (judged_condition_part known (function_in (value_at (codes "fn") fields))) fields ∷ [])

-- conditions, each of which sees the names that those before it assign
abbrev pub judged_conditions_from : ℕ → Known → List Doc → Judged
judged_conditions_from at known [] = fine
judged_conditions_from at known (c ∷ cs) =
    first_of (inside (decimal at) (judged_condition known c)) (judged_conditions_from (at + 1) (with_condition c known) cs)

abbrev pub judged_conditions : Known → Doc → Judged
judged_conditions known doc = do
  conditions ← items_of doc
  judged_conditions_from 0 known conditions

-- Endpoints.

-- each text of a document is a template
abbrev pub judged_texts_step : Doc-F (Known → Judged) → Known → Judged
judged_texts_step (Doc-F.Str template) known = judged_template known template
judged_texts_step (Doc-F.Items fs) known = each_item (λ f. f known) 0 fs
judged_texts_step (Doc-F.Fields ps) known = each_field (λ key f. f known) ps
judged_texts_step others known = fine

abbrev pub judged_texts : Known → Doc → Judged
judged_texts known doc = fold-Doc (Known → Judged) judged_texts_step doc known

abbrev pub is_scheme_text : List ℕ → Bool
is_scheme_text key = bytes_eq key (codes "name") || bytes_eq key (codes "signingName") || bytes_eq key (codes "signingRegion")

abbrev pub judged_scheme_text : List ℕ → Doc → Judged
judged_scheme_text key doc = if is_scheme_text key then any_text doc else fine

abbrev pub judged_scheme_part : Known → List ℕ → Doc → Judged
judged_scheme_part known key doc = first_of (judged_scheme_text key doc) (judged_texts known doc)

-- a way to sign
abbrev pub judged_scheme : Known → Doc → Judged
judged_scheme known doc = do
  fields ← fields_of doc
  each_field (judged_scheme_part known) fields

abbrev pub judged_schemes : Known → Doc → Judged
judged_schemes known doc = do
  schemes ← items_of doc
  each_item (judged_scheme known) 0 schemes

abbrev pub judged_property : Known → List ℕ → Doc → Judged
judged_property known key doc = if bytes_eq key (codes "authSchemes") then judged_schemes known doc else fine

abbrev pub judged_properties : Known → Doc → Judged
judged_properties known doc = do
  fields ← fields_of doc
  each_field (judged_property known) fields

abbrev pub judged_endpoint_part : Known → List ℕ → Doc → Judged
judged_endpoint_part known key doc =
    if bytes_eq key (codes "url") then judged_wanted known doc else
    if bytes_eq key (codes "properties") then judged_properties known doc else fine

-- an endpoint has a URL, and ways to sign
abbrev pub judged_endpoint : Known → Doc → Judged
judged_endpoint known doc = do
  fields ← fields_of doc
  first_bad (has_key (codes "url") fields ∷ each_field (judged_endpoint_part known) fields ∷ [])

-- Rules.

abbrev pub kind_named : List ℕ → Option RuleKind
kind_named name =
    if bytes_eq name (codes "endpoint") then Some kind.Endpoint else
    if bytes_eq name (codes "error") then Some kind.Error else
    if bytes_eq name (codes "tree") then Some kind.Tree else None

abbrev pub kind_of : List (Pair Doc) → Option RuleKind
kind_of ps = option_and_then kind_named (text_in (value_at (codes "type") ps))

-- the key of what a rule of a kind answers with
abbrev pub answer_key : RuleKind → List ℕ
answer_key kind.Endpoint = codes "endpoint"
answer_key kind.Error = codes "error"
answer_key kind.Tree = codes "rules"

abbrev pub has_endpoint : Option Doc → Judged
has_endpoint None = Err (Missing (below (codes "endpoint") (At (codes "url"))))
has_endpoint (Some doc) = fine

-- what the type of a rule names; an endpoint lacks its URL where it is absent itself
abbrev pub has_answer : Option RuleKind → List (Pair Doc) → Judged
has_answer None ps = fine
has_answer (Some kind.Endpoint) ps = has_endpoint (value_at (codes "endpoint") ps)
has_answer (Some kind.Error) ps = has_key (codes "error") ps
has_answer (Some kind.Tree) ps = has_key (codes "rules") ps

-- what is told of a document: as a rule, and as a list of rules
pub record RuleTale : Type 0 where
  pub rule : Known → Judged
  pub rules : Known → Judged

-- what a rule of a kind answers with
abbrev pub judged_answer : RuleKind → Known → Told RuleTale → Judged
judged_answer kind.Endpoint known told = judged_endpoint known told.part
judged_answer kind.Error known told = judged_wanted known told.part
judged_answer kind.Tree known told = told.tale.rules known

abbrev pub judged_answer_at : Option RuleKind → Known → List ℕ → Told RuleTale → Judged
judged_answer_at None known key told = fine
judged_answer_at (Some k) known key told = if bytes_eq key (answer_key k) then judged_answer k known told else fine

abbrev pub judged_kind : Doc → Judged
judged_kind doc = judged_text (λ name. is_some (kind_named name)) doc

-- a part of a rule with these conditions; its answer sees the names that they assign
abbrev pub judged_rule_part : Option RuleKind → List Doc → Known → List ℕ → Told RuleTale → Judged
judged_rule_part of_kind conditions known key told =
    if bytes_eq key (codes "type") then judged_kind told.part else
    if bytes_eq key (codes "conditions") then judged_conditions known told.part else
    judged_answer_at of_kind (with_conditions conditions known) key told

abbrev pub items_in : Doc → Option (List Doc)
items_in doc = items_kind (out-Doc doc)

abbrev pub conditions_in : List (Pair Doc) → List Doc
conditions_in ps = or_empty (option_and_then items_in (value_at (codes "conditions") ps))

abbrev pub judged_rule_with : List (Pair Doc) → Known → List (Pair (Told RuleTale)) → Judged
judged_rule_with fields known ps = first_bad
    (has_key (codes "type") fields
    ∷ has_answer (kind_of fields) fields
    ∷ each_field (judged_rule_part (kind_of fields) (conditions_in fields) known) ps ∷ [])

abbrev pub judged_rule_in : Known → Doc-F (Told RuleTale) → Judged
judged_rule_in known (Doc-F.Fields ps) = judged_rule_with (map pair_of_part ps) known ps
judged_rule_in known others = bad

abbrev pub judged_list_in : Known → Doc-F (Told RuleTale) → Judged
judged_list_in known (Doc-F.Items ts) = each_item (λ t. t.tale.rule known) 0 ts
judged_list_in known others = bad

abbrev pub rule_step : Doc-F (Told RuleTale) → RuleTale
rule_step parts = record { rule = λ known. judged_rule_in known parts; rules = λ known. judged_list_in known parts }

-- a rule by its fields
abbrev pub judged_rule_of : Known → List (Pair Doc) → Judged
judged_rule_of known fields = first_bad
    (has_key (codes "type") fields
    ∷ has_answer (kind_of fields) fields
    ∷ each_field (λ key doc. judged_rule_part (kind_of fields) (conditions_in fields) known key (told rule_step doc)) fields ∷ [])

abbrev pub judged_rule : Known → Doc → Judged
judged_rule known doc = (tale_of rule_step doc).rule known

-- a list of rules
abbrev pub judged_list : Known → Doc → Judged
judged_list known doc = (tale_of rule_step doc).rules known

-- Leaves.

-- how many leaves a document has, as a rule and as a list of rules
pub record Counted : Type 0 where
  pub rule : ℕ
  pub rules : ℕ

abbrev pub tree_leaves : Option (Told Counted) → ℕ
tree_leaves None = 0
tree_leaves (Some rules) = rules.tale.rules

abbrev pub rule_leaves : Option RuleKind → List (Pair (Told Counted)) → ℕ
rule_leaves None ps = 0
rule_leaves (Some kind.Endpoint) ps = 1
rule_leaves (Some kind.Error) ps = 1
rule_leaves (Some kind.Tree) ps = tree_leaves (value_at (codes "rules") ps)

abbrev pub counted_step : Doc-F (Told Counted) → Counted
counted_step (Doc-F.Items ts) = record { rule = 0; rules = sum (map (λ t. t.tale.rule) ts) }
counted_step (Doc-F.Fields ps) = record { rule = rule_leaves (kind_of (map pair_of_part ps)) ps; rules = 0 }
counted_step others = record { rule = 0; rules = 0 }

abbrev pub leaves_in : Doc → ℕ
leaves_in doc = (tale_of counted_step doc).rules

abbrev pub leaves_of_rule : Doc → ℕ
leaves_of_rule doc = (tale_of counted_step doc).rule

-- The rule set.

-- rules with too many leaves are bad as a whole
abbrev pub judged_tree : Known → Doc → Judged
judged_tree known doc = first_of (fine_if (not (nat_lt 100000 (leaves_in doc)))) (judged_list known doc)

abbrev pub judged_part : Known → List ℕ → Doc → Judged
judged_part known key doc =
    if bytes_eq key (codes "parameters") then judged_parameters doc else
    if bytes_eq key (codes "rules") then judged_tree known doc else fine

-- the first bad place of a rule set
abbrev pub judged_rules : Doc → Judged
judged_rules doc = do
  fields ← fields_of doc
  first_bad
      (has_key (codes "parameters") fields
      ∷ has_key (codes "rules") fields
      ∷ each_field (judged_part (parameter_names (value_at (codes "parameters") fields))) fields ∷ [])
