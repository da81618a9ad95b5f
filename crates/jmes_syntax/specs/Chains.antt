-- Chains, put together from the left.
use Rattle.std.specs.Prelude.{List, [], ◌∷◌, ◌++◌}
use Rattle.jmes_syntax.specs.declared.chains.Link.{Link}
use Rattle.jmes_syntax.specs.declared.chains.Link.TheVariants as link
use Rattle.jmes_syntax.specs.declared.expr.Chain.{Chain}
use Rattle.jmes_syntax.specs.declared.expr.Expr.{Expr}
use Rattle.jmes_syntax.specs.declared.expr.Step.{Step}

abbrev pub chain : List (Step Expr) → List (List (Step Expr)) → Chain Expr
chain first flattened = record { first = first; flattened = flattened }

abbrev pub empty_chain : Chain Expr
empty_chain = chain [] []

-- a step at the end of the last of these segments
abbrev pub onto_last : List (Step Expr) → List (List (Step Expr)) → Step Expr → List (List (Step Expr))
onto_last x [] s = (x ++ s ∷ []) ∷ []
onto_last x (y ∷ ys) s = x ∷ onto_last y ys s

-- a step more in the last segment
abbrev pub with_step : List (Step Expr) → List (List (Step Expr)) → Step Expr → Chain Expr
with_step first [] s = chain (first ++ s ∷ []) []
with_step first (x ∷ xs) s = chain first (onto_last x xs s)

-- a step more, or a flatten `[]`, behind which a segment begins
abbrev pub linked : Chain Expr → Link → Chain Expr
linked c (link.Step s) = with_step c.first c.flattened s
linked c link.Flatten = chain c.first (c.flattened ++ [] ∷ [])

-- all these links behind a chain
abbrev pub with_links : Chain Expr → List Link → Chain Expr
with_links c [] = c
with_links c (k ∷ ks) = with_links (linked c k) ks

-- the chain of these links
abbrev pub chain_of : List Link → Chain Expr
chain_of ks = with_links empty_chain ks
