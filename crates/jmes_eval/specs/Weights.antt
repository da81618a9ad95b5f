-- How much of an expression is left to go down: each part weighs more than the parts in it. The
-- evaluator's recursion ends by this.
use Rattle.std.specs.Prelude.{ℕ, ◌+◌, List, [], ◌∷◌}
use Rattle.jmes_syntax.specs.declared.expr.Argument.{Argument}
use Rattle.jmes_syntax.specs.declared.expr.Argument.TheVariants as argument
use Rattle.jmes_syntax.specs.declared.expr.Chain.{Chain}
use Rattle.jmes_syntax.specs.declared.expr.Compared.{Compared}
use Rattle.jmes_syntax.specs.declared.expr.Expr.{Expr}
use Rattle.jmes_syntax.specs.declared.expr.Expr.TheOpen.{Expr-F}
use Rattle.jmes_syntax.specs.declared.expr.Expr.TheFolds.{fold-Expr}
use Rattle.jmes_syntax.specs.declared.expr.Operand.{Operand}
use Rattle.jmes_syntax.specs.declared.expr.Step.{Step}
use Rattle.jmes_syntax.specs.declared.expr.Step.TheVariants as step

-- each part counts, and some more
abbrev pub total : {A : Type 0} → (A → ℕ) → List A → ℕ
total weigh [] = 0
total weigh (x ∷ xs) = weigh x + 6 + total weigh xs

abbrev pub argument_weight : Argument ℕ → ℕ
argument_weight (argument.Value n) = n
argument_weight (argument.Expref n) = n

abbrev pub arguments_weight : List (Argument ℕ) → ℕ
arguments_weight args = total argument_weight args

abbrev pub step_weight : Step ℕ → ℕ
step_weight (step.Group n) = n
step_weight (step.List ns) = total (λ n. n) ns
step_weight (step.Hash ps) = total (λ p. p.value) ps
step_weight (step.Call g args) = arguments_weight args + 4
step_weight (step.FilterProjection n) = n
step_weight others = 0

abbrev pub steps_weight : List (Step ℕ) → ℕ
steps_weight steps = total step_weight steps

abbrev pub chain_weight : Chain ℕ → ℕ
chain_weight c = steps_weight c.first + total steps_weight c.flattened + 1

abbrev pub operand_weight : Operand ℕ → ℕ
operand_weight o = chain_weight o.chain + 1

abbrev pub compared_weight : Compared ℕ → ℕ
compared_weight c = operand_weight c.right

abbrev pub weight_step : Expr-F ℕ → ℕ
weight_step (Expr-F.Pipe ns) = total (λ n. n) ns + 1
weight_step (Expr-F.Or ns) = total (λ n. n) ns + 1
weight_step (Expr-F.And ns) = total (λ n. n) ns + 1
weight_step (Expr-F.Compare o cs) = operand_weight o + total compared_weight cs + 2
weight_step (Expr-F.Operand o) = operand_weight o + 1

abbrev pub weight : Expr → ℕ
weight = fold-Expr ℕ weight_step
