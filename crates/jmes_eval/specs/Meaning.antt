-- The meaning of a JMESPath expression: the value that it gives for a document, by the cases of its
-- tree (JMESPath specification, under the names of its sections).
use Rattle.std.specs.Prelude.{ℕ, zero, suc, Bool, true, false, not, if◌then◌else◌, List, [], ◌∷◌, ◌++◌, map, slice_get, Option, None, Some, option_map, Ok, Err}
use Rattle.std.specs.Option.{option_flatten}
use Rattle.std.specs.Ordering.{is_eq, is_lt, is_le, is_gt, is_ge}
use Rattle.std.specs.declared.cmp.Ordering.{Ordering}
use Rattle.json_doc.specs.declared.decimal.Decimal.{Decimal}
use Rattle.json_doc.specs.declared.doc.Doc as doc
use Rattle.json_doc.specs.declared.doc.Doc.{Doc}
use Rattle.texts.specs.declared.pairs.Pair.{Pair}
use Rattle.json_doc.specs.DecimalValue.{value_cmp}
use Rattle.json_doc.specs.Grammar.{put_all}
use Rattle.texts.specs.Keys.{value_at}
use Rattle.jmes_syntax.specs.declared.expr.Argument.{Argument}
use Rattle.jmes_syntax.specs.declared.expr.Argument.TheVariants as argument
use Rattle.jmes_syntax.specs.declared.expr.Chain.{Chain}
use Rattle.jmes_syntax.specs.declared.expr.Comparator.{Comparator}
use Rattle.jmes_syntax.specs.declared.expr.Comparator.TheVariants as comparator
use Rattle.jmes_syntax.specs.declared.expr.Compared.{Compared}
use Rattle.jmes_syntax.specs.declared.expr.Expr.{Expr}
use Rattle.jmes_syntax.specs.declared.expr.Expr.TheOpen.{Expr-F}
use Rattle.jmes_syntax.specs.declared.expr.Expr.TheFolds.{fold-Expr}
use Rattle.jmes_syntax.specs.declared.expr.Operand.{Operand}
use Rattle.jmes_syntax.specs.declared.expr.Step.{Step}
use Rattle.jmes_syntax.specs.declared.expr.Step.TheVariants as step
use Rattle.jmes_syntax.specs.declared.function.Function.{Function}
use Rattle.jmes_syntax.specs.declared.function.Function.TheVariants as function
use Rattle.jmes_syntax.specs.declared.whole.Whole.{Whole}
use Rattle.jmes_eval.specs.Answers.{Answer, due, all_of}
use Rattle.texts.specs.Calls.{◌>>=◌}
use Rattle.jmes_eval.specs.Equality.{same}
use Rattle.jmes_eval.specs.declared.signature.Form.{Form}
use Rattle.jmes_eval.specs.declared.signature.Form.TheVariants.{One, Two, Many, ExprefFirst, ExprefLast}
use Rattle.jmes_eval.specs.declared.query_fault.QueryFault.TheVariants.{TypeFault}
use Rattle.jmes_eval.specs.Forms.{form_of}
use Rattle.jmes_eval.specs.Kinds.{number_of, items_of, fields_of, is_null, truth_of, type_of}
use Rattle.jmes_eval.specs.Lists.{length_of, reverse_of, is_number, is_text, sort_of, min_of, max_of, to_array_of, not_null_of, keys_of, values_of, values_in, merge_of}
use Rattle.jmes_eval.specs.Numbers.{abs_of, ceil_of, floor_of, sum_of, to_number_of}
use Rattle.jmes_eval.specs.Orders.{is_before, is_behind, sorted, first_of, doc_or_null}
use Rattle.jmes_eval.specs.Slices.{element_at, sliced}
use Rattle.jmes_eval.specs.Texts.{contains_of, starts_with_of, ends_with_of, join_of, to_string_of}

abbrev pub Meaning : Type 0
Meaning = Doc → Answer Doc

-- "Identifiers": the value at the name, null where there is none
abbrev pub field_of : List ℕ → Doc → Doc
field_of name d = doc_or_null (option_flatten (option_map (value_at name) (fields_of d)))

-- "Index Expressions": null where no element stands there
abbrev pub index_of : Whole → Doc → Doc
index_of n d = doc_or_null (option_flatten (option_map (element_at n) (items_of d)))

-- the values of each expression for the document
abbrev pub values_at : List Meaning → Doc → Answer (List Doc)
values_at [] d = Ok []
values_at (f ∷ fs) d = f d >>= (λ x. values_at fs d >>= (λ xs. Ok (x ∷ xs)))

-- "MultiSelect List": null on null
abbrev pub list_of : List Meaning → Meaning
list_of fs d = if is_null d then Ok doc.Null else values_at fs d >>= (λ xs. Ok (doc.Items xs))

abbrev pub pairs_at : List (Pair Meaning) → Doc → Answer (List (Pair Doc))
pairs_at [] d = Ok []
pairs_at (p ∷ ps) d = p.value d >>= (λ x. pairs_at ps d >>= (λ qs. Ok (record { key = p.key; value = x } ∷ qs)))

-- "MultiSelect Hash": null on null; a key that comes again takes the later value
abbrev pub hash_of : List (Pair Meaning) → Meaning
hash_of ps d = if is_null d then Ok doc.Null else pairs_at ps d >>= (λ qs. Ok (doc.Fields (put_all [] qs)))

-- Functions.

-- the values of the arguments; an expref has none
abbrev pub arguments_at : List (Argument Meaning) → Doc → Answer (List (Option Doc))
arguments_at [] d = Ok []
arguments_at (argument.Value f ∷ args) d = f d >>= (λ x. arguments_at args d >>= (λ xs. Ok (Some x ∷ xs)))
arguments_at (argument.Expref f ∷ args) d = arguments_at args d >>= (λ xs. Ok (None ∷ xs))

-- the value at a place among them
abbrev pub value_in : ℕ → List (Option Doc) → Answer Doc
value_in n xs = due (option_flatten (slice_get xs n))

abbrev pub referred_in : Argument Meaning → Option Meaning
referred_in (argument.Value f) = None
referred_in (argument.Expref f) = Some f

-- the expref at a place among the arguments
abbrev pub expref_in : ℕ → List (Argument Meaning) → Answer Meaning
expref_in n args = due (option_flatten (option_map referred_in (slice_get args n)))

-- "map": the values of the elements, nulls too
abbrev pub mapped : Meaning → List Doc → Answer (List Doc)
mapped f [] = Ok []
mapped f (d ∷ ds) = f d >>= (λ x. mapped f ds >>= (λ xs. Ok (x ∷ xs)))

abbrev pub map_of : Meaning → Doc → Answer Doc
map_of f d = due (items_of d) >>= (λ ds. mapped f ds >>= (λ xs. Ok (doc.Items xs)))

-- a key of the kind of the first, which is a number or a text
abbrev pub fits : Doc → Doc → Bool
fits first k = if is_number first then is_number k else (if is_text first then is_text k else false)

-- the elements with their keys, where each key fits the first
abbrev pub keyed_like : Doc → Meaning → List Doc → Answer (List (Doc × Doc))
keyed_like first f [] = Ok []
keyed_like first f (d ∷ ds) = f d >>= (λ k. due (if fits first k then Some k else None) >>= (λ k. keyed_like first f ds >>= (λ rest. Ok ((k, d) ∷ rest))))

abbrev pub keyed : Meaning → List Doc → Answer (List (Doc × Doc))
keyed f [] = Ok []
keyed f (d ∷ ds) = f d >>= (λ first. keyed_like first f (d ∷ ds))

abbrev pub key_before : Doc × Doc → Doc × Doc → Bool
key_before p q = is_before p.0 q.0

abbrev pub key_behind : Doc × Doc → Doc × Doc → Bool
key_behind p q = is_behind p.0 q.0

abbrev pub keyed_in : Meaning → Doc → Answer (List (Doc × Doc))
keyed_in f d = due (items_of d) >>= keyed f

abbrev pub element_in : Option (Doc × Doc) → Doc
element_in None = doc.Null
element_in (Some p) = p.1

-- "sort_by", "min_by", "max_by"
abbrev pub sort_by_of : Doc → Meaning → Answer Doc
sort_by_of d f = keyed_in f d >>= (λ ps. Ok (doc.Items (map (λ p. p.1) (sorted key_before ps))))

abbrev pub min_by_of : Doc → Meaning → Answer Doc
min_by_of d f = keyed_in f d >>= (λ ps. Ok (element_in (first_of (sorted key_before ps))))

abbrev pub max_by_of : Doc → Meaning → Answer Doc
max_by_of d f = keyed_in f d >>= (λ ps. Ok (element_in (first_of (sorted key_behind ps))))

-- a function of one value
abbrev pub of_one : Function → Doc → Answer Doc
of_one function.Abs x = abs_of x
of_one function.Ceil x = ceil_of x
of_one function.Floor x = floor_of x
of_one function.Keys x = keys_of x
of_one function.Length x = length_of x
of_one function.Max x = max_of x
of_one function.Min x = min_of x
of_one function.Reverse x = reverse_of x
of_one function.Sort x = sort_of x
of_one function.Sum x = sum_of x
of_one function.ToArray x = Ok (to_array_of x)
of_one function.ToNumber x = Ok (to_number_of x)
of_one function.ToString x = Ok (to_string_of x)
of_one function.Type x = Ok (doc.Str (type_of x))
of_one function.Values x = values_of x
of_one others x = Err TypeFault

-- of two
abbrev pub of_two : Function → Doc → Doc → Answer Doc
of_two function.Contains x y = contains_of x y
of_two function.EndsWith x y = ends_with_of x y
of_two function.Join x y = join_of x y
of_two function.StartsWith x y = starts_with_of x y
of_two others x y = Err TypeFault

-- of one or more
abbrev pub of_many : Function → List Doc → Answer Doc
of_many function.Merge xs = merge_of xs
of_many function.NotNull xs = Ok (not_null_of xs)
of_many others xs = Err TypeFault

abbrev pub many_of : Function → List (Option Doc) → Answer Doc
many_of g xs = due (all_of (λ x. x) xs) >>= of_many g

-- of a value and an expref that is applied to its elements
abbrev pub of_elements : Function → Doc → Meaning → Answer Doc
of_elements function.MaxBy x f = max_by_of x f
of_elements function.MinBy x f = min_by_of x f
of_elements function.SortBy x f = sort_by_of x f
of_elements others x f = Err TypeFault

-- the function of the values of its arguments and of the expref among them
abbrev pub apply : Form → Function → List (Argument Meaning) → List (Option Doc) → Answer Doc
apply One g args xs = value_in 0 xs >>= of_one g
apply Two g args xs = value_in 0 xs >>= (λ x. value_in 1 xs >>= of_two g x)
apply Many g args xs = many_of g xs
apply ExprefFirst g args xs = expref_in 0 args >>= (λ f. value_in 1 xs >>= map_of f)
apply ExprefLast g args xs = value_in 0 xs >>= (λ x. expref_in 1 args >>= of_elements g x)

-- "Functions Expressions": all arguments have their values before the function is called
abbrev pub call_of : Function → List (Argument Meaning) → Meaning
call_of g args d = arguments_at args d >>= apply (form_of g) g args

-- Projections.

-- a projection is the list of its elements' values without nulls
abbrev pub each : Meaning → List Doc → Answer (List Doc)
each f [] = Ok []
each f (d ∷ ds) = f d >>= (λ x. each f ds >>= (λ xs. Ok (if is_null x then xs else x ∷ xs)))

abbrev pub project : Meaning → Option (List Doc) → Answer Doc
project f None = Ok doc.Null
project f (Some ds) = each f ds >>= (λ xs. Ok (doc.Items xs))

-- whether a value passes the test
abbrev pub passes_of : Meaning → Doc → Answer Bool
passes_of test d = test d >>= (λ t. Ok (truth_of t))

-- an element that doesn't pass the test has no value
abbrev pub sieved : Meaning → Meaning → Meaning
sieved test f d = test d >>= (λ t. if truth_of t then f d else Ok doc.Null)

-- a step of a chain, and what the rest of its segment means: a projection applies it to each element
abbrev pub step_of : Step Meaning → Meaning → Meaning
step_of step.Current rest d = rest d
step_of (step.Literal value) rest d = rest value
step_of (step.Field name) rest d = rest (field_of name d)
step_of (step.Group f) rest d = f d >>= rest
step_of (step.List fs) rest d = list_of fs d >>= rest
step_of (step.Hash ps) rest d = hash_of ps d >>= rest
step_of (step.Call g args) rest d = call_of g args d >>= rest
step_of (step.Index n) rest d = rest (index_of n d)
step_of step.Values rest d = project rest (option_map values_in (fields_of d))
step_of step.Elements rest d = project rest (items_of d)
step_of (step.Slice s) rest d = project rest (option_map (sliced s) (items_of d))
step_of (step.FilterProjection test) rest d = project (sieved test rest) (items_of d)

abbrev pub run : List (Step Meaning) → Meaning
run [] d = Ok d
run (s ∷ ss) d = step_of s (run ss) d

abbrev pub in_list : Option (List Doc) → Doc → List Doc
in_list (Some ds) d = ds
in_list None d = d ∷ []

-- the elements that are lists joined by one level
abbrev pub joined_lists : List Doc → List Doc
joined_lists [] = []
joined_lists (d ∷ ds) = in_list (items_of d) d ++ joined_lists ds

-- "Flatten Operator": `[]` takes the value of all before it in the chain and projects
abbrev pub behind : List (List (Step Meaning)) → Meaning
behind [] d = Ok d
behind (ss ∷ more) d = project (run ss) (option_map joined_lists (items_of d)) >>= behind more

abbrev pub chain_of : Chain Meaning → Meaning
chain_of c d = run c.first d >>= behind c.flattened

-- Operators.

-- "Not Expressions": so many times
abbrev pub negated : ℕ → Doc → Doc
negated zero x = x
negated (suc n) x = doc.Flag (not (truth_of (negated n x)))

abbrev pub operand_of : Operand Meaning → Meaning
operand_of o d = chain_of o.chain d >>= (λ x. Ok (negated o.negations x))

-- whether two values in this order compare so
abbrev pub holds : Comparator → Ordering → Bool
holds comparator.Equal o = is_eq o
holds comparator.NotEqual o = not (is_eq o)
holds comparator.Less o = is_lt o
holds comparator.LessOrEqual o = is_le o
holds comparator.Greater o = is_gt o
holds comparator.GreaterOrEqual o = is_ge o

-- "Ordering Operators": null unless both are numbers
abbrev pub ordered : (Ordering → Bool) → Option Decimal → Option Decimal → Doc
ordered test (Some a) (Some b) = doc.Flag (test (value_cmp a b))
ordered test a b = doc.Null

abbrev pub compared : Comparator → Doc → Doc → Doc
compared comparator.Equal x y = doc.Flag (same x y)
compared comparator.NotEqual x y = doc.Flag (not (same x y))
compared others x y = ordered (holds others) (number_of x) (number_of y)

abbrev pub comparisons : List (Compared Meaning) → Doc → Meaning
comparisons [] x d = Ok x
comparisons (c ∷ cs) x d = operand_of c.right d >>= (λ y. comparisons cs (compared c.comparator x y) d)

abbrev pub compare_of : Operand Meaning → List (Compared Meaning) → Meaning
compare_of o cs d = operand_of o d >>= (λ x. comparisons cs x d)

-- "Or Expressions", "And Expressions": the first side that decides, or the last one
abbrev pub either : List Meaning → Doc → Meaning
either [] x d = Ok x
either (f ∷ fs) x d = if truth_of x then Ok x else f d >>= (λ y. either fs y d)

abbrev pub both : List Meaning → Doc → Meaning
both [] x d = Ok x
both (f ∷ fs) x d = if truth_of x then f d >>= (λ y. both fs y d) else Ok x

-- "Pipe Expressions"
abbrev pub piped : List Meaning → Meaning
piped [] d = Ok d
piped (f ∷ fs) d = f d >>= piped fs

abbrev pub meaning_step : Expr-F Meaning → Meaning
meaning_step (Expr-F.Pipe fs) d = piped fs d
meaning_step (Expr-F.Or fs) d = either fs doc.Null d
meaning_step (Expr-F.And fs) d = both fs (doc.Flag true) d
meaning_step (Expr-F.Compare o cs) d = compare_of o cs d
meaning_step (Expr-F.Operand o) d = operand_of o d

abbrev pub meaning : Expr → Meaning
meaning = fold-Expr Meaning meaning_step

-- Steps that are no projections: what they give before the rest of their segment.
abbrev pub is_projection : {A : Type 0} → Step A → Bool
is_projection step.Values = true
is_projection step.Elements = true
is_projection (step.Slice s) = true
is_projection (step.FilterProjection test) = true
is_projection others = false

abbrev pub part_of : Step Meaning → Meaning
part_of step.Current d = Ok d
part_of (step.Literal value) d = Ok value
part_of (step.Field name) d = Ok (field_of name d)
part_of (step.Group f) d = f d
part_of (step.List fs) d = list_of fs d
part_of (step.Hash ps) d = hash_of ps d
part_of (step.Call g args) d = call_of g args d
part_of (step.Index n) d = Ok (index_of n d)
part_of others d = Ok doc.Null
