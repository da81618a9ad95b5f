-- Paths: chains of names (JMESPath specification, "SubExpressions").
use Rattle.std.specs.Prelude.{◌≡◌, []}
use Rattle.std.specs.List.{AllByRecursion}
use Rattle.jmes_syntax.specs.declared.expr.Expr.{Expr}
use Rattle.jmes_syntax.specs.declared.expr.Expr as expr
use Rattle.jmes_syntax.specs.declared.expr.Operand.{Operand}
use Rattle.jmes_syntax.specs.declared.expr.Step.{Step}
use Rattle.jmes_syntax.specs.declared.expr.Step.TheVariants as step

abbrev pub IsField : Step Expr → Type 0
IsField (step.Field t) = Unit {0}
IsField others = ⊥

-- names alone, without `!` and `[]`
pub record IsPath (e : Expr) : Type 0 where
  pub operand : Operand Expr
  pub whole : e ≡ expr.Operand operand
  pub plain : operand.negations ≡ 0
  pub one_segment : operand.chain.flattened ≡ []
  pub names : AllByRecursion IsField operand.chain.first
