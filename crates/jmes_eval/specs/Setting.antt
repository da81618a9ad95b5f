-- A document with a value set along a chain of names.
use Rattle.std.specs.Prelude.{ℕ, List, [], ◌∷◌, Option, None, Some}
use denote.Ref.{Bor}
use Rattle.std.specs.List.{flat_map}
use Rattle.std.specs.Option.{option_copied}
use Rattle.json_doc.specs.declared.doc.Doc as doc
use Rattle.json_doc.specs.declared.doc.Doc.{Doc}
use Rattle.texts.specs.declared.pairs.Pair.{Pair}
use Rattle.texts.specs.Keys.{put, value_at}
use Rattle.jmes_syntax.specs.declared.expr.Expr.{Expr}
use Rattle.jmes_syntax.specs.declared.expr.Expr.TheOpen.{Expr-F}
use Rattle.jmes_syntax.specs.declared.expr.Expr.TheViews.{out-Expr}
use Rattle.jmes_syntax.specs.declared.expr.Step.{Step}
use Rattle.jmes_syntax.specs.declared.expr.Step.TheVariants as step
use Rattle.jmes_eval.specs.Kinds.{fields_of}
use Rattle.jmes_eval.specs.Meaning.{field_of}
use Rattle.jmes_eval.specs.Orders.{doc_or_null}

abbrev pub name_in : {A : Type 0} → Step A → List (List ℕ)
name_in (step.Field name) = name ∷ []
name_in others = []

-- the names of steps
abbrev pub names_in : {A : Type 0} → List (Step A) → List (List ℕ)
names_in steps = flat_map name_in steps

abbrev pub path_in : Expr-F Expr → List (List ℕ)
path_in (Expr-F.Operand o) = names_in o.chain.first
path_in others = []

-- the names of a chain of names
abbrev pub path_of : Expr → List (List ℕ)
path_of e = path_in (out-Expr e)

abbrev pub pairs_in : Option (List (Pair Doc)) → List (Pair Doc)
pairs_in None = []
pairs_in (Some ps) = ps

-- the pairs of an object, and none of what is no object
abbrev pub pairs_of : Doc → List (Pair Doc)
pairs_of d = pairs_in (fields_of d)

-- the value put at each name in turn: missing objects are made, and what is no object is replaced
abbrev pub set_at : List (List ℕ) → Doc → Doc → Doc
set_at [] value d = value
set_at (k ∷ ks) value d = doc.Fields (put (pairs_of d) k (set_at ks value (doc_or_null (value_at k (pairs_of d)))))

-- the names, each with the pairs that stand where it is looked for
abbrev pub objects_along : List (List ℕ) → Doc → List (List ℕ × List (Pair Doc))
objects_along [] d = []
objects_along (k ∷ ks) d = (k, pairs_of d) ∷ objects_along ks (doc_or_null (value_at k (pairs_of d)))

-- a name and an object that are looked at
abbrev pub named_pairs : Bor (List ℕ) × Option (Bor (List (Pair Doc))) → List ℕ × List (Pair Doc)
named_pairs x = (x.0.now, pairs_in (option_copied x.1))

-- the value at the names in turn, null where there is none
abbrev pub value_along : List (List ℕ) → Doc → Doc
value_along [] d = d
value_along (k ∷ ks) d = value_along ks (field_of k d)
