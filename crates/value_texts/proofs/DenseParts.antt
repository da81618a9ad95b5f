-- The parts of a document without blanks.
use Rattle.std.proofs.Common.{◌≡◌, ℕ, List, [], ◌∷◌, ◌++◌, map, refl, ap, rules}
use Rattle.std.specs.Prelude.{codes}
use Rattle.json_doc.specs.declared.doc.Doc.{Doc, the_lemmas}
use Rattle.json_doc.specs.declared.doc.Doc.TheVariants.{Items, Fields}
use Rattle.texts.specs.Joined.{joined}
use Rattle.texts.specs.declared.pairs.Pair.{Pair}
use Rattle.value_texts.specs.Dense.{dense_of, dense_field}

abbrev pub with_dense : Pair Doc → Pair (List ℕ)
with_dense p = record { key = p.key; value = dense_of p.value }

abbrev pub field_dense : Pair Doc → List ℕ
field_dense p = dense_field (with_dense p)

pub dense-Items : (ds : List Doc) → dense_of (Items ds) ≡ 91 ∷ joined (codes ",") (map dense_of ds) ++ 93 ∷ []
dense-Items ds = search (rules, the_lemmas)

pub with_all : (ps : List (Pair Doc)) → map dense_field (map with_dense ps) ≡ map field_dense ps
with_all [] = refl
with_all (p ∷ ps) = ap (λ ts. field_dense p ∷ ts) (with_all ps)

pub dense-Fields : (ps : List (Pair Doc)) → dense_of (Fields ps) ≡ 123 ∷ joined (codes ",") (map dense_field (map with_dense ps)) ++ 125 ∷ []
dense-Fields ps = search (rules, the_lemmas)
