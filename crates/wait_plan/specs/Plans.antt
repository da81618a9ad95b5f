-- The plan of a waiter: its row with the queries read.
use Rattle.std.specs.Prelude.{◌≡◌, ℕ, List, [], ◌∷◌, ◌++◌, length, map, Option, None, Some, codes}
use Rattle.std.specs.Fmt.{decimal}
use Rattle.jmes_syntax.specs.declared.expr.Expr.{Expr}
use Rattle.jmes_syntax.specs.Grammar.{Expression}
use Rattle.model_files.specs.declared.waiters.Acceptor.{Acceptor}
use Rattle.model_files.specs.declared.waiters.Matcher.{Matcher}
use Rattle.model_files.specs.declared.waiters.Matcher.TheVariants as matcher
use Rattle.model_files.specs.declared.waiters.WaiterRow.{WaiterRow}
use Rattle.wait_plan.specs.declared.fault.PlanFault.{PlanFault}
use Rattle.wait_plan.specs.declared.fault.PlanFault.TheVariants.{Bad}
use Rattle.wait_plan.specs.declared.plan.Subject.{Subject}
use Rattle.wait_plan.specs.declared.plan.Subject.TheVariants as subject
use Rattle.wait_plan.specs.declared.plan.Test.{Test}
use Rattle.wait_plan.specs.declared.plan.WaitPlan.{WaitPlan}

-- an argument is this expression, or none
abbrev pub IsQueryOf : Option (List ℕ) → Option Expr → Type 0
IsQueryOf None (Some e) = ⊥
IsQueryOf (Some text) (Some e) = Expression text e
IsQueryOf None None = Unit {0}
IsQueryOf (Some text) None = (e : Expr) → Expression text e → ⊥

-- what an acceptor looks at: matchers of paths have an argument, which must be an expression
abbrev pub IsSubject : Matcher → Option (List ℕ) → Option Subject → Type 0
IsSubject matcher.Path argument (Some (subject.Path e)) = IsQueryOf argument (Some e)
IsSubject matcher.Path argument None = IsQueryOf argument None
IsSubject matcher.PathAll argument (Some (subject.PathAll e)) = IsQueryOf argument (Some e)
IsSubject matcher.PathAll argument None = IsQueryOf argument None
IsSubject matcher.PathAny argument (Some (subject.PathAny e)) = IsQueryOf argument (Some e)
IsSubject matcher.PathAny argument None = IsQueryOf argument None
IsSubject matcher.Status argument (Some subject.Status) = Unit {0}
IsSubject matcher.Error argument (Some subject.Error) = Unit {0}
IsSubject matcher argument found = ⊥

abbrev pub LooksAt : Acceptor → Option Subject → Type 0
LooksAt a found = IsSubject a.matcher a.argument found

abbrev pub IsTestOf : Acceptor → Test → Type 0
IsTestOf a test = LooksAt a (Some test.subject) × (test.expected ≡ a.expected)

-- a test for each acceptor, in their order
abbrev pub AreTests : List Acceptor → List Test → Type 0
AreTests [] [] = Unit {0}
AreTests (a ∷ xs) (test ∷ tests) = IsTestOf a test × AreTests xs tests
AreTests acceptors tests = ⊥

pub record IsPlanOf (row : WaiterRow) (plan : WaitPlan) : Type 0 where
  pub states : plan.states ≡ map (λ a. a.state) row.acceptors
  pub tests : AreTests row.acceptors plan.tests
  pub delay : plan.delay ≡ row.delay
  pub tries : plan.tries ≡ row.tries

-- the place of the argument of the acceptor at a position
abbrev pub place_of : ℕ → List ℕ
place_of at = codes "acceptors." ++ decimal at ++ codes ".argument"

-- the first acceptor whose argument should be an expression and isn't one stands behind these
pub record IsBad (acceptors : List Acceptor) (f : PlanFault) : Type 0 where
  pub before : List Acceptor
  pub acceptor : Acceptor
  pub behind : List Acceptor
  pub stands : acceptors ≡ before ++ acceptor ∷ behind
  pub good : (tests : List Test) × AreTests before tests
  pub bad : LooksAt acceptor None
  pub named : f ≡ Bad (place_of (length before))
