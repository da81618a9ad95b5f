-- The rules of a good document: the list of its leaves, each with all conditions on its path in order.
use Rattle.std.specs.Prelude.{ℕ, ◌+◌, Bool, false, if◌then◌else◌, List, [], ◌∷◌, ◌++◌, map, flat_map, slice_get, Option, None, Some, codes, bytes_eq, Result}
use Rattle.std.specs.Fmt.{decimal}
use Rattle.json_doc.specs.declared.doc.Doc.{Doc}
use Rattle.json_doc.specs.declared.doc.Doc.TheVariants as doc
use Rattle.json_doc.specs.declared.doc.Doc.TheOpen.{Doc-F}
use Rattle.json_doc.specs.declared.doc.Doc.TheViews.{out-Doc}
use Rattle.texts.specs.declared.pairs.Pair.{Pair}
use Rattle.texts.specs.Keys.{value_at}
use Rattle.rule_terms.specs.declared.expression.Expression.{Expression}
use Rattle.rule_terms.specs.declared.expression.Expression.TheVariants as expression
use Rattle.rule_sets.specs.declared.fault.RuleFault.{RuleFault}
use Rattle.rule_terms.specs.declared.function.Function.{Function}
use Rattle.rule_sets.specs.declared.rule_set.Answer.{Answer}
use Rattle.rule_sets.specs.declared.rule_set.Answer.TheVariants as answer
use Rattle.rule_sets.specs.declared.rule_set.Condition.{Condition}
use Rattle.rule_sets.specs.declared.rule_set.Leaf.{Leaf}
use Rattle.rule_sets.specs.declared.rule_set.Parameter.{Parameter}
use Rattle.rule_sets.specs.declared.rule_set.RuleSet.{RuleSet}
use Rattle.rule_terms.specs.Attributes.{member_of}
use Rattle.rule_sets.specs.BadRules.{judged_rules, function_in, is_list_type}
use Rattle.rule_sets.specs.Faults.{read_unless}
use Rattle.rule_terms.specs.Seen.{text_in, text_or_empty, text_at, items_at, fields_at, or_empty}
use Rattle.rule_sets.specs.Trees.{Told, pair_of_part, whole_of, told, tale_of}

-- a rule that answers
pub record WholeLeaf : Type 0 where
  pub place : List ℕ
  pub conditions : List Condition
  pub answer : Answer

-- what a rule set says
pub record Rules : Type 0 where
  pub parameters : List Parameter
  pub leaves : List WholeLeaf

-- Arguments.

-- what is read of a document, as an argument and, if it is a list, as a list of arguments
pub record ReadArgument : Type 0 where
  pub one : Expression
  pub many : Option (List Expression)

abbrev pub null_expression : Expression
null_expression = expression.Literal doc.Null

abbrev pub many_of : Option (Told ReadArgument) → Option (List Expression)
many_of None = None
many_of (Some told) = told.tale.many

abbrev pub call_with : Option Function → Option (List Expression) → Expression
call_with (Some f) (Some arguments) = expression.Call f arguments
call_with (Some f) None = null_expression
call_with None arguments = null_expression

abbrev pub object_read : List (Pair (Told ReadArgument)) → Option (Told ReadArgument) → Expression
object_read ps (Some name) = expression.Reference (text_or_empty name.part)
object_read ps None =
    call_with (function_in (value_at (codes "fn") (map pair_of_part ps))) (many_of (value_at (codes "argv") ps))

abbrev pub argument_read : Doc-F (Told ReadArgument) → Expression
argument_read Doc-F.Null = null_expression
argument_read (Doc-F.Flag b) = expression.Literal (doc.Flag b)
argument_read (Doc-F.Number n) = expression.Literal (doc.Number n)
argument_read (Doc-F.Str t) = expression.Template t
argument_read (Doc-F.Items ts) = null_expression
argument_read (Doc-F.Fields ps) = object_read ps (value_at (codes "ref") ps)

abbrev pub arguments_read : Doc-F (Told ReadArgument) → Option (List Expression)
arguments_read (Doc-F.Items ts) = Some (map (λ t. t.tale.one) ts)
arguments_read others = None

abbrev pub argument_step : Doc-F (Told ReadArgument) → ReadArgument
argument_step parts = record { one = argument_read parts; many = arguments_read parts }

-- what an argument says
abbrev pub expression_of : Doc → Expression
expression_of argument = (tale_of argument_step argument).one

abbrev pub told_pair : Pair Doc → Pair (Told ReadArgument)
told_pair p = record { key = p.key; value = told argument_step p.value }

-- a call by its fields
abbrev pub call_of : List (Pair Doc) → Expression
call_of fields = object_read (map told_pair fields) None

abbrev pub expression_or_null : Option Doc → Expression
expression_or_null None = null_expression
expression_or_null (Some argument) = expression_of argument

-- Rules.

abbrev pub condition_of : Doc → Condition
condition_of condition = record { call = expression_of condition; assign = text_in (member_of (codes "assign") condition) }

-- the conditions of a rule alone
abbrev pub conditions_of : Doc → List Condition
conditions_of rule = map condition_of (items_at (codes "conditions") rule)

abbrev pub schemes_in : Option Doc → List Doc
schemes_in None = []
schemes_in (Some properties) = items_at (codes "authSchemes") properties

abbrev pub endpoint_answer : Option Doc → Answer
endpoint_answer None = answer.Error null_expression
endpoint_answer (Some endpoint) =
    answer.Endpoint (expression_or_null (member_of (codes "url") endpoint)) (schemes_in (member_of (codes "properties") endpoint))

-- what a leaf answers
abbrev pub answer_of : Doc → Answer
answer_of rule =
    if bytes_eq (text_at (codes "type") rule) (codes "error") then answer.Error (expression_or_null (member_of (codes "error") rule))
    else endpoint_answer (member_of (codes "endpoint") rule)

-- the leaves of a document below conditions and at a place, as a rule and as a list of rules
pub record LeafTale : Type 0 where
  pub rule : List Condition → List ℕ → List WholeLeaf
  pub rules : List Condition → List ℕ → List WholeLeaf

abbrev pub leaves_each : {A : Type 0} → (A → List ℕ → List WholeLeaf) → List ℕ → ℕ → List A → List WholeLeaf
leaves_each cut place at [] = []
leaves_each cut place at (x ∷ xs) = cut x (place ++ 46 ∷ decimal at) ++ leaves_each cut place (at + 1) xs

abbrev pub rules_below : Option (Told LeafTale) → List Condition → List ℕ → List WholeLeaf
rules_below None path place = []
rules_below (Some told) path place = told.tale.rules path place

abbrev pub rule_cut : Doc → List (Pair (Told LeafTale)) → List Condition → List ℕ → List WholeLeaf
rule_cut rule ps path place =
    if bytes_eq (text_at (codes "type") rule) (codes "tree")
    then rules_below (value_at (codes "rules") ps) path (place ++ codes ".rules")
    else record { place = place; conditions = path; answer = answer_of rule } ∷ []

abbrev pub rule_leaves : Doc-F (Told LeafTale) → List Condition → List ℕ → List WholeLeaf
rule_leaves (Doc-F.Fields ps) path place =
    let rule = whole_of (Doc-F.Fields ps) in rule_cut rule ps (path ++ conditions_of rule) place
rule_leaves others path place = record { place = place; conditions = path; answer = answer_of (whole_of others) } ∷ []

abbrev pub list_leaves : Doc-F (Told LeafTale) → List Condition → List ℕ → List WholeLeaf
list_leaves (Doc-F.Items ts) path place = leaves_each (λ t. t.tale.rule path) place 0 ts
list_leaves others path place = []

abbrev pub leaf_step : Doc-F (Told LeafTale) → LeafTale
leaf_step parts = record { rule = rule_leaves parts; rules = list_leaves parts }

-- the leaves of a rule
abbrev pub leaves_of : List Condition → List ℕ → Doc → List WholeLeaf
leaves_of path place rule = (tale_of leaf_step rule).rule path place

-- the leaves of rules, counted from a position on
abbrev pub leaves_below : List Condition → List ℕ → ℕ → List Doc → List WholeLeaf
leaves_below path place at rules = leaves_each (λ rule place. leaves_of path place rule) place at rules

abbrev pub is_true_in : Option Doc → Bool
is_true_in None = false
is_true_in (Some flag) = elim (out-Doc flag) [ Doc-F.Flag b ↦ b | _ ↦ false ]

abbrev pub parameter_of : List ℕ → Doc → Parameter
parameter_of name parameter = record {
  name = name;
  built_in = text_in (member_of (codes "builtIn") parameter);
  required = is_true_in (member_of (codes "required") parameter);
  is_list = is_list_type (text_at (codes "type") parameter);
  default = member_of (codes "default") parameter;
}

abbrev pub parameters_of : Doc → List Parameter
parameters_of file = map (λ p. parameter_of p.key p.value) (fields_at (codes "parameters") file)

abbrev pub whole_rules : Doc → Rules
whole_rules file = record {
  parameters = parameters_of file;
  leaves = leaves_below [] (codes "rules") 0 (items_at (codes "rules") file);
}

-- what the file says, or its first bad place
abbrev pub rules_of : Doc → Result Rules RuleFault
rules_of file = read_unless (judged_rules file) (whole_rules file)

-- Rules as the code keeps them, where leaves share the conditions of their paths by number.

abbrev pub conditions_at : List (List Condition) → ℕ → List Condition
conditions_at groups number = or_empty (slice_get groups number)

abbrev pub path_of : List (List Condition) → List ℕ → List Condition
path_of groups numbers = flat_map (conditions_at groups) numbers

abbrev pub seen_leaf : List (List Condition) → Leaf → WholeLeaf
seen_leaf groups leaf = record { place = leaf.place; conditions = path_of groups leaf.path; answer = leaf.answer }

abbrev pub seen_leaves : RuleSet → List WholeLeaf
seen_leaves rules = map (seen_leaf rules.conditions) rules.leaves

abbrev pub seen_rules : RuleSet → Rules
seen_rules rules = record { parameters = rules.parameters; leaves = seen_leaves rules }
