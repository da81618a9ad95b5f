-- The parts of an expression with a function at each expression in them, as the fold makes them.
use Rattle.std.proofs.Common.{◌≡◌, List, [], ◌∷◌, map, refl, ap, ◌∙◌}
use Rattle.texts.specs.declared.pairs.Pair.{Pair}
use Rattle.jmes_syntax.specs.declared.expr.Argument.{Argument}
use Rattle.jmes_syntax.specs.declared.expr.Argument.TheVariants as argument
use Rattle.jmes_syntax.specs.declared.expr.Chain.{Chain}
use Rattle.jmes_syntax.specs.declared.expr.Compared.{Compared}
use Rattle.jmes_syntax.specs.declared.expr.Expr.{map-Expr}
use Rattle.jmes_syntax.specs.declared.expr.Expr.TheOpen.{Expr-F}
use Rattle.jmes_syntax.specs.declared.expr.Operand.{Operand}
use Rattle.jmes_syntax.specs.declared.expr.Step.{Step}
use Rattle.jmes_syntax.specs.declared.expr.Step.TheVariants as step
use Rattle.jmes_syntax.specs.declared.function.Function.{Function}
use Rattle.jmes_eval.specs.Parts.{argument_with, chain_with, compared_with, operand_with, pair_with, steps_with}

module _ {A B : Type 0} (f : A → B) where
  abbrev in_chain : List (Step A) → List (List (Step A)) → Expr-F A
  in_chain ss more = Expr-F.Operand (record { negations = 0; chain = record { first = ss; flattened = more } })

  abbrev first_in : Expr-F B → List (Step B)
  first_in (Expr-F.Operand o) = o.chain.first
  first_in others = []

  abbrev more_in : Expr-F B → List (List (Step B))
  more_in (Expr-F.Operand o) = o.chain.flattened
  more_in others = []

  -- the steps as the fold makes them
  abbrev made_steps : List (Step A) → List (Step B)
  made_steps ss = first_in (map-Expr A B f (in_chain ss []))

  abbrev pairs_in : List (Step B) → List (Pair B)
  pairs_in (step.Hash qs ∷ more) = qs
  pairs_in others = []

  abbrev made_pairs : List (Pair A) → List (Pair B)
  made_pairs ps = pairs_in (made_steps (step.Hash ps ∷ []))

  pairs-same : (ps : List (Pair A)) → made_pairs ps ≡ map (pair_with f) ps
  pairs-same [] = refl
  pairs-same (p ∷ ps) = ap (λ qs. pair_with f p ∷ qs) (pairs-same ps)

  abbrev arguments_in : List (Step B) → List (Argument B)
  arguments_in (step.Call g args ∷ more) = args
  arguments_in others = []

  abbrev made_arguments : Function → List (Argument A) → List (Argument B)
  made_arguments g args = arguments_in (made_steps (step.Call g args ∷ []))

  arguments-same : (g : Function) (args : List (Argument A)) → made_arguments g args ≡ map (argument_with f) args
  arguments-same g [] = refl
  arguments-same g (argument.Value e ∷ args) = ap (λ qs. argument.Value (f e) ∷ qs) (arguments-same g args)
  arguments-same g (argument.Expref e ∷ args) = ap (λ qs. argument.Expref (f e) ∷ qs) (arguments-same g args)

  pub steps-same : (ss : List (Step A)) → made_steps ss ≡ steps_with f ss
  steps-same [] = refl
  steps-same (step.Current ∷ ss) = ap (λ ts. step.Current ∷ ts) (steps-same ss)
  steps-same (step.Literal v ∷ ss) = ap (λ ts. step.Literal v ∷ ts) (steps-same ss)
  steps-same (step.Field t ∷ ss) = ap (λ ts. step.Field t ∷ ts) (steps-same ss)
  steps-same (step.Group e ∷ ss) = ap (λ ts. step.Group (f e) ∷ ts) (steps-same ss)
  steps-same (step.List es ∷ ss) = ap (λ ts. step.List (map f es) ∷ ts) (steps-same ss)
  steps-same (step.Hash ps ∷ ss) = ap (λ qs. step.Hash qs ∷ made_steps ss) (pairs-same ps) ∙ ap (λ ts. step.Hash (map (pair_with f) ps) ∷ ts) (steps-same ss)
  steps-same (step.Call g args ∷ ss) = ap (λ as'. step.Call g as' ∷ made_steps ss) (arguments-same g args) ∙ ap (λ ts. step.Call g (map (argument_with f) args) ∷ ts) (steps-same ss)
  steps-same (step.Index n ∷ ss) = ap (λ ts. step.Index n ∷ ts) (steps-same ss)
  steps-same (step.Values ∷ ss) = ap (λ ts. step.Values ∷ ts) (steps-same ss)
  steps-same (step.Elements ∷ ss) = ap (λ ts. step.Elements ∷ ts) (steps-same ss)
  steps-same (step.Slice s ∷ ss) = ap (λ ts. step.Slice s ∷ ts) (steps-same ss)
  steps-same (step.FilterProjection e ∷ ss) = ap (λ ts. step.FilterProjection (f e) ∷ ts) (steps-same ss)

  abbrev made_segments : List (List (Step A)) → List (List (Step B))
  made_segments sss = more_in (map-Expr A B f (in_chain [] sss))

  segments-same : (sss : List (List (Step A))) → made_segments sss ≡ map (steps_with f) sss
  segments-same [] = refl
  segments-same (ss ∷ sss) = ap (λ ts. ts ∷ made_segments sss) (steps-same ss) ∙ ap (λ tss. steps_with f ss ∷ tss) (segments-same sss)

  abbrev made_chain : Chain A → Chain B
  made_chain c = record { first = made_steps c.first; flattened = made_segments c.flattened }

  chain-same : (c : Chain A) → made_chain c ≡ chain_with f c
  chain-same c = ap (λ ss. record { first = ss; flattened = made_segments c.flattened }) (steps-same c.first) ∙ ap (λ sss. record { first = steps_with f c.first; flattened = sss }) (segments-same c.flattened)

  pub operand-same : (o : Operand A) → map-Expr A B f (Expr-F.Operand o) ≡ Expr-F.Operand (operand_with f o)
  operand-same o = ap (λ (c : Chain B). Expr-F.Operand (record { negations = o.negations; chain = c })) (chain-same o.chain)

  abbrev others_in : Expr-F B → List (Compared B)
  others_in (Expr-F.Compare o cs) = cs
  others_in others = []

  abbrev made_compared : Operand A → List (Compared A) → List (Compared B)
  made_compared o cs = others_in (map-Expr A B f (Expr-F.Compare o cs))

  compared-same : (o : Operand A) (cs : List (Compared A)) → made_compared o cs ≡ map (compared_with f) cs
  compared-same o [] = refl
  compared-same o (c ∷ cs) =
      ap (λ (d : Chain B). record { comparator = c.comparator; right = record { negations = c.right.negations; chain = d } } ∷ made_compared o cs) (chain-same c.right.chain)
      ∙ ap (λ ds. compared_with f c ∷ ds) (compared-same o cs)

  pub compare-same : (o : Operand A) (cs : List (Compared A)) → map-Expr A B f (Expr-F.Compare o cs) ≡ Expr-F.Compare (operand_with f o) (map (compared_with f) cs)
  compare-same o cs =
      ap (λ (c : Chain B). Expr-F.Compare (record { negations = o.negations; chain = c }) (made_compared o cs)) (chain-same o.chain)
      ∙ ap (λ ds. Expr-F.Compare (operand_with f o) ds) (compared-same o cs)
