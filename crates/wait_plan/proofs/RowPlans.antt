-- Tests of acceptors, one after another; a row has a plan or a bad argument.
use Rattle.std.proofs.Common.{◌≡◌, true, false, ℕ, ◌+◌, suc, ◌<◌, List, [], ◌∷◌, ◌++◌, length, get_or, map, take, drop, Option, None, Some, inl, inr, ⊎_elim, refl, sym, ap, ◌∙◌, subst, append_assoc, append-nil, arith}
use Rattle.std.proofs.lemmas.List.{take_more, drop_more, take-append-drop, length-take-le}
use Rattle.std.specs.Prelude.{◌⊎◌}
use Rattle.jmes_syntax.specs.declared.expr.Expr.{Expr}
use Rattle.jmes_syntax.specs.declared.parse_fault.ParseFault.{ParseFault}
use Rattle.jmes_syntax.specs.declared.parse_fault.ParseFault.TheVariants.{OutOfMemory as NoMemory}
use Rattle.jmes_syntax.specs.Grammar.{Expression}
use Rattle.jmes_syntax.specs.Scans.{HasFault}
use Rattle.jmes_syntax.proofs.ExpressionOrFault.{expression_or_fault}
use Rattle.jmes_syntax.proofs.GrammarOfTexts.{text_complete}
use Rattle.jmes_syntax.proofs.Texts.{no_fault}
use Rattle.std.specs.Prelude.{encode_utf8_all}
use Rattle.model_files.specs.declared.waiters.Acceptor.{Acceptor}
use Rattle.model_files.specs.declared.waiters.Matcher.{Matcher}
use Rattle.model_files.specs.declared.waiters.Matcher.TheVariants as matcher
use Rattle.model_files.specs.declared.waiters.WaiterRow.{WaiterRow}
use Rattle.wait_plan.specs.declared.fault.PlanFault.{PlanFault}
use Rattle.wait_plan.specs.declared.fault.PlanFault.TheVariants.{Bad, OutOfMemory}
use Rattle.wait_plan.specs.declared.plan.Subject.{Subject}
use Rattle.wait_plan.specs.declared.plan.Subject.TheVariants as subject
use Rattle.wait_plan.specs.declared.plan.Test.{Test}
use Rattle.wait_plan.specs.declared.plan.WaitPlan.{WaitPlan}
use Rattle.wait_plan.specs.Inside.{is_memory}
use Rattle.wait_plan.specs.Plans.{IsQueryOf, IsSubject, LooksAt, IsTestOf, AreTests, IsPlanOf, IsBad, place_of}

pub tests_more : (xs : List Acceptor) (ts : List Test) (a : Acceptor) (t : Test) → AreTests xs ts → IsTestOf a t → AreTests (xs ++ a ∷ []) (ts ++ t ∷ [])
tests_more [] [] a t are is = (is, tt)
tests_more [] (u ∷ us) a t are is = absurd are
tests_more (b ∷ bs) [] a t are is = absurd are
tests_more (b ∷ bs) (u ∷ us) a t are is = (are.0, tests_more bs us a t are.1 is)

-- one acceptor more
pub tests_step : (acceptors : List Acceptor) (at : ℕ) (a : Acceptor) (tests : List Test) (test : Test) → at < length acceptors → a ≡ get_or acceptors at a
    → AreTests (take at acceptors) tests → IsTestOf a test → AreTests (take (at + 1) acceptors) (tests ++ test ∷ [])
tests_step acceptors at a tests test within is are one =
    subst (λ front. AreTests front (tests ++ test ∷ [])) (sym (take_more acceptors at a within ∙ ap (λ x. take at acceptors ++ x ∷ []) (sym is))) (tests_more (take at acceptors) tests a test are one)

bad_there : (acceptors : List Acceptor) (at : ℕ) (a : Acceptor) (tests : List Test) (f : PlanFault) → at < length acceptors → a ≡ get_or acceptors at a
    → AreTests (take at acceptors) tests → LooksAt a None → f ≡ Bad (place_of at) → IsBad acceptors f
bad_there acceptors at a tests f within is are none named = record {
  before = take at acceptors;
  acceptor = a;
  behind = drop (at + 1) acceptors;
  stands = sym (take-append-drop at acceptors) ∙ ap (λ rest. take at acceptors ++ rest) (drop_more acceptors at a within ∙ ap (λ x. x ∷ drop (at + 1) acceptors) (sym is));
  good = (tests, are);
  bad = none;
  named = named ∙ ap (λ n. Bad (place_of n)) (sym (length-take-le at acceptors (omega arith)));
}

-- the first acceptor without a test is the bad one
pub bad_at : (acceptors : List Acceptor) (at : ℕ) (a : Acceptor) (tests : List Test) (f : PlanFault) → at < length acceptors → a ≡ get_or acceptors at a
    → AreTests (take at acceptors) tests → LooksAt a None → (f ≡ OutOfMemory) ⊎ (f ≡ Bad (place_of at)) → (f ≡ OutOfMemory) ⊎ IsBad acceptors f
bad_at acceptors at a tests f within is are none (inl memory) = inl memory
bad_at acceptors at a tests f within is are none (inr named) = inr (bad_there acceptors at a tests f within is are none named)

-- an argument is an expression or none, and not both
no_fault_too : (text : List ℕ) (f : ParseFault) → HasFault text f → (e : Expr) → Expression text e → ⊥
no_fault_too text f has e is = no_fault (encode_utf8_all text) e f (text_complete text e is) has

-- the fault of a text, memory apart, tells that it is none
pub no_query : (text : List ℕ) (f : ParseFault) → is_memory f ≡ false → ((f ≡ NoMemory) ⊎ HasFault text f) → IsQueryOf (Some text) None
no_query text f is (inl memory) e means = let clash : true ≡ false = sym (ap is_memory memory) ∙ is in absurd cc
no_query text f is (inr has) e means = no_fault_too text f has e means

query_there : (argument : Option (List ℕ)) → (query : Option Expr) × IsQueryOf argument query
query_there None = (None, tt)
query_there (Some text) = ⊎_elim
    (λ (w : (e : Expr) × Expression text e). let made : (query : Option Expr) × IsQueryOf (Some text) query = (Some w.0, w.1) in made)
    (λ (w : (f : ParseFault) × HasFault text f). let made : (query : Option Expr) × IsQueryOf (Some text) query = (None, no_fault_too text w.0 w.1) in made)
    (expression_or_fault text)

path_there : (argument : Option (List ℕ)) (query : Option Expr) → IsQueryOf argument query → (found : Option Subject) × IsSubject matcher.Path argument found
path_there argument None is = (None, is)
path_there argument (Some e) is = (Some (subject.Path e), is)

all_there : (argument : Option (List ℕ)) (query : Option Expr) → IsQueryOf argument query → (found : Option Subject) × IsSubject matcher.PathAll argument found
all_there argument None is = (None, is)
all_there argument (Some e) is = (Some (subject.PathAll e), is)

any_there : (argument : Option (List ℕ)) (query : Option Expr) → IsQueryOf argument query → (found : Option Subject) × IsSubject matcher.PathAny argument found
any_there argument None is = (None, is)
any_there argument (Some e) is = (Some (subject.PathAny e), is)

subject_there : (m : Matcher) (argument : Option (List ℕ)) → (found : Option Subject) × IsSubject m argument found
subject_there matcher.Path argument = let q = query_there argument in path_there argument q.0 q.1
subject_there matcher.PathAll argument = let q = query_there argument in all_there argument q.0 q.1
subject_there matcher.PathAny argument = let q = query_there argument in any_there argument q.0 q.1
subject_there matcher.Status argument = (Some subject.Status, tt)
subject_there matcher.Error argument = (Some subject.Error, tt)

query_clash : (argument : Option (List ℕ)) (e : Expr) → IsQueryOf argument (Some e) → IsQueryOf argument None → ⊥
query_clash None e some none = some
query_clash (Some text) e some none = none e some

path_clash : (argument : Option (List ℕ)) (s : Subject) → IsSubject matcher.Path argument (Some s) → IsQueryOf argument None → ⊥
path_clash argument (subject.Path e) some none = query_clash argument e some none
path_clash argument (subject.PathAll e) some none = some
path_clash argument (subject.PathAny e) some none = some
path_clash argument subject.Status some none = some
path_clash argument subject.Error some none = some

all_clash : (argument : Option (List ℕ)) (s : Subject) → IsSubject matcher.PathAll argument (Some s) → IsQueryOf argument None → ⊥
all_clash argument (subject.Path e) some none = some
all_clash argument (subject.PathAll e) some none = query_clash argument e some none
all_clash argument (subject.PathAny e) some none = some
all_clash argument subject.Status some none = some
all_clash argument subject.Error some none = some

any_clash : (argument : Option (List ℕ)) (s : Subject) → IsSubject matcher.PathAny argument (Some s) → IsQueryOf argument None → ⊥
any_clash argument (subject.Path e) some none = some
any_clash argument (subject.PathAll e) some none = some
any_clash argument (subject.PathAny e) some none = query_clash argument e some none
any_clash argument subject.Status some none = some
any_clash argument subject.Error some none = some

subjects_clash : (m : Matcher) (argument : Option (List ℕ)) (s : Subject) → IsSubject m argument (Some s) → IsSubject m argument None → ⊥
subjects_clash matcher.Path argument s some none = path_clash argument s some none
subjects_clash matcher.PathAll argument s some none = all_clash argument s some none
subjects_clash matcher.PathAny argument s some none = any_clash argument s some none
subjects_clash matcher.Status argument s some none = none
subjects_clash matcher.Error argument s some none = none

-- there are as many states as tests
pub as_many_tests : (xs : List Acceptor) (ts : List Test) → AreTests xs ts → length (map (λ a. a.state) xs) ≡ length ts
as_many_tests [] [] are = refl
as_many_tests [] (t ∷ ts) are = absurd are
as_many_tests (a ∷ xs) [] are = absurd are
as_many_tests (a ∷ xs) (t ∷ ts) are = ap suc (as_many_tests xs ts are.1)

-- Rows.

-- the rest after acceptors that have tests
abbrev Rest : List Acceptor → List Acceptor → Type 0
Rest before xs = ((us : List Test) × AreTests (before ++ xs) us) ⊎ ((f : PlanFault) × IsBad (before ++ xs) f)

rest_step : (before xs : List Acceptor) (a : Acceptor) (ts : List Test) → AreTests before ts → (found : Option Subject) → LooksAt a found
    → ((us : List Test) → AreTests (before ++ a ∷ []) us → Rest (before ++ a ∷ []) xs) → Rest before (a ∷ xs)
rest_step before xs a ts are None looks more =
    inr (Bad (place_of (length before)), record { before = before; acceptor = a; behind = xs; stands = refl; good = (ts, are); bad = looks; named = refl })
rest_step before xs a ts are (Some s) looks more =
    let test : Test = record { subject = s; expected = a.expected } in
    subst (λ all. ((us : List Test) × AreTests all us) ⊎ ((f : PlanFault) × IsBad all f)) (append_assoc before (a ∷ []) xs)
    (more (ts ++ test ∷ []) (tests_more before ts a test are (looks, refl)))

rest_is : (xs before : List Acceptor) (ts : List Test) → AreTests before ts → Rest before xs
rest_is [] before ts are = inl (ts, subst (λ all. AreTests all ts) (sym (append-nil before)) are)
rest_is (a ∷ xs) before ts are =
    let found = subject_there a.matcher a.argument in
    rest_step before xs a ts are found.0 found.1 (λ us more. rest_is xs (before ++ a ∷ []) us more)

pub plan_or_fault : (row : WaiterRow) → ((plan : WaitPlan) × IsPlanOf row plan) ⊎ ((f : PlanFault) × IsBad row.acceptors f)
plan_or_fault row = ⊎_elim
    (λ (w : (ts : List Test) × AreTests row.acceptors ts).
    let plan : WaitPlan = record { states = map (λ a. a.state) row.acceptors; tests = w.0; delay = row.delay; tries = row.tries; as_many = as_many_tests row.acceptors w.0 w.1 } in
    let made : ((plan : WaitPlan) × IsPlanOf row plan) ⊎ ((f : PlanFault) × IsBad row.acceptors f) = inl (plan, record { states = refl; tests = w.1; delay = refl; tries = refl }) in made)
    (λ (w : (f : PlanFault) × IsBad row.acceptors f). let made : ((plan : WaitPlan) × IsPlanOf row plan) ⊎ ((f : PlanFault) × IsBad row.acceptors f) = inr w in made)
    (rest_is row.acceptors [] [] tt)

tests_fail : (before behind : List Acceptor) (a : Acceptor) (ts : List Test) → AreTests (before ++ a ∷ behind) ts → LooksAt a None → ⊥
tests_fail [] behind a [] are bad = are
tests_fail [] behind a (t ∷ ts) are bad = subjects_clash a.matcher a.argument t.subject are.0.0 bad
tests_fail (b ∷ bs) behind a [] are bad = are
tests_fail (b ∷ bs) behind a (t ∷ ts) are bad = tests_fail bs behind a ts are.1 bad

pub plan_excludes_fault : (row : WaiterRow) (plan : WaitPlan) (f : PlanFault) → IsPlanOf row plan → IsBad row.acceptors f → ⊥
plan_excludes_fault row plan f is bad = tests_fail bad.before bad.behind bad.acceptor plan.tests (subst (λ xs. AreTests xs plan.tests) bad.stands is.tests) bad.bad
