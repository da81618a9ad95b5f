-- A step at the end of a chain's last segment.
use Rattle.std.proofs.Common.{◌≡◌, List, [], ◌∷◌, ◌++◌, refl, ap}
use Rattle.jmes_syntax.specs.declared.expr.Expr.{Expr}
use Rattle.jmes_syntax.specs.declared.expr.Step.{Step}
use Rattle.jmes_syntax.specs.Chains.{chain, onto_last, with_step}

onto-end : (y : List (Step Expr)) (ys : List (List (Step Expr))) (x : List (Step Expr)) (s : Step Expr) → onto_last y (ys ++ x ∷ []) s ≡ y ∷ (ys ++ (x ++ s ∷ []) ∷ [])
onto-end y [] x s = refl
onto-end y (z ∷ zs) x s = ap (λ v. y ∷ v) (onto-end z zs x s)

pub last_segment : (first : List (Step Expr)) (xs : List (List (Step Expr))) (x : List (Step Expr)) (s : Step Expr) → with_step first (xs ++ x ∷ []) s ≡ chain first (xs ++ (x ++ s ∷ []) ∷ [])
last_segment first [] x s = refl
last_segment first (y ∷ ys) x s = ap (chain first) (onto-end y ys x s)
