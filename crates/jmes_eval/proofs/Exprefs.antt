-- Exprefs among the arguments.
use Rattle.std.proofs.Common.{◌≡◌, ◌<◌, ◌≤◌, ℕ, zero, suc, List, [], ◌∷◌, map, length, get_or, Err, refl, sym, ap, arith}
use Rattle.jmes_syntax.specs.declared.expr.Argument.{Argument}
use Rattle.jmes_syntax.specs.declared.expr.Argument.TheVariants as argument
use Rattle.jmes_syntax.specs.declared.expr.Expr.{Expr}
use Rattle.jmes_eval.specs.declared.query_fault.QueryFault.TheVariants.{TypeFault}
use Rattle.jmes_eval.specs.Answers.{due}
use Rattle.jmes_eval.specs.Meaning.{meaning, expref_in, referred_in}
use Rattle.jmes_eval.specs.Parts.{argument_with}
use Rattle.jmes_eval.specs.Weights.{weight, argument_weight, arguments_weight}
use Rattle.jmes_eval.proofs.Meanings.{total-at, total-map}

pub expref-at : (args : List (Argument Expr)) (n : ℕ) (x : Argument Expr) → n < length args → x ≡ get_or args n x → expref_in n (map (argument_with meaning) args) ≡ due (referred_in (argument_with meaning x))
expref-at [] n x below is = absurd (omega arith)
expref-at (a ∷ args) zero x below is = ap (λ y. due (referred_in (argument_with meaning y))) (sym is)
expref-at (a ∷ args) (suc n) x below is = expref-at args n x (omega arith) is

pub expref-past : (args : List (Argument Expr)) (n : ℕ) → length args ≤ n → expref_in n (map (argument_with meaning) args) ≡ Err TypeFault
expref-past [] n past = refl
expref-past (a ∷ args) zero past = absurd (omega arith)
expref-past (a ∷ args) (suc n) past = expref-past args n (omega arith)

pub expref-weight : (args : List (Argument Expr)) (n : ℕ) (x : Argument Expr) (e : Expr) → n < length args → x ≡ get_or args n x → x ≡ argument.Expref e → weight e < arguments_weight (map (argument_with weight) args)
expref-weight args n x e below is refers =
    let part = total-at (λ a. argument_weight (argument_with weight a)) args n x below is in
    let here = ap (λ a. argument_weight (argument_with weight a)) refers in
    let all = total-map argument_weight (argument_with weight) args in
    omega (arith, part, here, all)
