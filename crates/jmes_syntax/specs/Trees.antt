-- What the trees of expressions are put together of, whichever way the tokens are read.
use Rattle.std.specs.Prelude.{ℕ, ◌==◌, nat_le, Bool, List, [], ◌∷◌, Option, None, Some}
use Rattle.texts.specs.declared.pairs.Pair.{Pair}
use Rattle.jmes_syntax.specs.declared.expr.Chain.{Chain}
use Rattle.jmes_syntax.specs.declared.expr.Comparator.{Comparator}
use Rattle.jmes_syntax.specs.declared.expr.Comparator.TheVariants as comparator
use Rattle.jmes_syntax.specs.declared.expr.Compared.{Compared}
use Rattle.jmes_syntax.specs.declared.expr.Expr.{Expr}
use Rattle.jmes_syntax.specs.declared.expr.Expr as expr
use Rattle.jmes_syntax.specs.declared.expr.Operand.{Operand}
use Rattle.jmes_syntax.specs.declared.function.Arity.{Arity}
use Rattle.jmes_syntax.specs.declared.function.Arity.TheVariants as arity
use Rattle.jmes_syntax.specs.declared.reader.Level.{Level}
use Rattle.jmes_syntax.specs.declared.reader.Level.TheVariants as level
use Rattle.jmes_syntax.specs.declared.token.Mark.{Mark}
use Rattle.jmes_syntax.specs.declared.token.Mark.TheVariants as mark

-- the mark that joins sides
abbrev pub mark_of : Level → Mark
mark_of level.Pipe = mark.Pipe
mark_of level.Or = mark.Or
mark_of level.And = mark.And

abbrev pub joined : Level → List Expr → Expr
joined level.Pipe es = expr.Pipe es
joined level.Or es = expr.Or es
joined level.And es = expr.And es

-- these sides joined; a side that stands alone is itself
abbrev pub one_of : Level → List Expr → Expr
one_of l [] = joined l []
one_of l (e ∷ []) = e
one_of l (e ∷ d ∷ es) = joined l (e ∷ d ∷ es)

-- an operand and what it is compared with, grouped from the left
abbrev pub comparison : Operand Expr → List (Compared Expr) → Expr
comparison a [] = expr.Operand a
comparison a (c ∷ cs) = expr.Compare a (c ∷ cs)

abbrev pub comparator_of : Mark → Option Comparator
comparator_of mark.Equal = Some comparator.Equal
comparator_of mark.NotEqual = Some comparator.NotEqual
comparator_of mark.Less = Some comparator.Less
comparator_of mark.LessOrEqual = Some comparator.LessOrEqual
comparator_of mark.Greater = Some comparator.Greater
comparator_of mark.GreaterOrEqual = Some comparator.GreaterOrEqual
comparator_of others = None

-- the function takes so many arguments
abbrev pub takes : Arity → ℕ → Bool
takes (arity.Exactly k) n = n == k
takes (arity.AtLeast k) n = nat_le k n

abbrev pub member : List ℕ → Expr → Pair Expr
member k e = record { key = k; value = e }

abbrev pub compared : Comparator → Operand Expr → Compared Expr
compared c a = record { comparator = c; right = a }

abbrev pub operand : ℕ → Chain Expr → Operand Expr
operand k c = record { negations = k; chain = c }
