-- Which acceptors match what a call came to, and the state that is decided by them.
use Rattle.std.specs.Prelude.{ℕ, ◌==◌, Bool, true, false, ◌&&◌, not, List, ◌∷◌, Option, None, Some, Result, Ok, Err, bytes_eq, ℤ, pos}
use Rattle.std.specs.List.{list_all, list_any}
use Rattle.json_doc.specs.declared.doc.Doc.{Doc}
use Rattle.json_doc.specs.declared.doc.Doc.TheOpen.{Doc-F}
use Rattle.json_doc.specs.declared.doc.Doc.TheViews.{out-Doc}
use Rattle.json_doc.specs.DecimalValue.{whole}
use Rattle.jmes_eval.specs.Answers.{Answer}
use Rattle.jmes_eval.specs.Equality.{same}
use Rattle.jmes_eval.specs.Kinds.{items_of, has_some}
use Rattle.jmes_eval.specs.Meaning.{meaning}
use Rattle.model_files.specs.declared.waiters.State.{State}
use Rattle.wait_plan.specs.declared.matching.Outcome.{Outcome}
use Rattle.wait_plan.specs.declared.matching.Outcome.TheVariants as outcome
use Rattle.wait_plan.specs.declared.plan.Subject.{Subject}
use Rattle.wait_plan.specs.declared.plan.Subject.TheVariants as subject
use Rattle.wait_plan.specs.declared.plan.Test.{Test}

-- a reply's document, or the code of an error
abbrev pub Told : Type 0
Told = Result Doc (List ℕ)

abbrev pub told : Outcome → Told
told (outcome.Document d) = Ok d.now
told (outcome.Error code) = Err code.now

abbrev pub ok_of : Answer Doc → Option Doc
ok_of (Ok x) = Some x
ok_of (Err fault) = None

-- the value of a query on the document; an error has none, nor has a query that faults
abbrev pub value_of : (Doc → Answer Doc) → Told → Option Doc
value_of query (Ok d) = ok_of (query d)
value_of query (Err code) = None

-- there is a value, and it passes
abbrev pub passes : (Doc → Bool) → Option Doc → Bool
passes test (Some x) = test x
passes test None = false

-- a list with at least one item, and each equals this
abbrev pub all_equal : Doc → Option (List Doc) → Bool
all_equal expected None = false
all_equal expected (Some xs) = has_some xs && list_all (λ x. same x expected) xs

-- a list with an item that equals this
abbrev pub any_equals : Doc → Option (List Doc) → Bool
any_equals expected None = false
any_equals expected (Some xs) = list_any (λ x. same x expected) xs

abbrev pub is_whole : ℕ → Option ℤ → Bool
is_whole n (Some (pos m)) = m == n
is_whole n others = false

-- the number of this status
abbrev pub is_status : ℕ → Doc-F Doc → Bool
is_status status (Doc-F.Number n) = is_whole status (whole n)
is_status status others = false

-- the code of the error; or whether there is one
abbrev pub is_error : Told → Doc-F Doc → Bool
is_error (Ok d) (Doc-F.Flag flag) = not flag
is_error (Err code) (Doc-F.Flag flag) = flag
is_error (Err code) (Doc-F.Str text) = bytes_eq text code
is_error told others = false

abbrev pub is_as_expected : Subject → Doc → Told → ℕ → Bool
is_as_expected (subject.Path e) expected told status = passes (λ x. same x expected) (value_of (meaning e) told)
is_as_expected (subject.PathAll e) expected told status = passes (λ x. all_equal expected (items_of x)) (value_of (meaning e) told)
is_as_expected (subject.PathAny e) expected told status = passes (λ x. any_equals expected (items_of x)) (value_of (meaning e) told)
is_as_expected subject.Status expected told status = is_status status (out-Doc expected)
is_as_expected subject.Error expected told status = is_error told (out-Doc expected)

-- whether what a call came to passes a test
abbrev pub matches : Told → ℕ → Test → Bool
matches told status test = is_as_expected test.subject test.expected told status

-- the state of the first that matched
abbrev pub first_match : List State → List Bool → Option State
first_match (s ∷ ss) (true ∷ ms) = Some s
first_match (s ∷ ss) (false ∷ ms) = first_match ss ms
first_match states matched = None
