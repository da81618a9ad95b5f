-- The text of an object without blanks.
use Rattle.std.proofs.Common.{◌≡◌, ℕ, List, [], ◌∷◌, ◌++◌, map, refl, sym, ap, ◌∙◌}
use Rattle.std.specs.Prelude.{codes}
use Rattle.json_doc.specs.declared.doc.Doc.{Doc}
use Rattle.json_doc.specs.declared.doc.Doc.TheOpen.{Doc-F}
use Rattle.json_doc.specs.declared.doc.Doc.TheFolds.{fold-roll-Doc}
use Rattle.json_doc.specs.declared.doc.Doc.TheVariants.{Fields, rolls-Fields}
use Rattle.texts.specs.declared.pairs.Pair.{Pair}
use Rattle.texts.specs.Joined.{joined}
use Rattle.jmes_eval.specs.Texts.{tight_of, tight_step, tight_field, tight_pair}

abbrev with_text : Pair Doc → Pair (List ℕ)
with_text p = record { key = p.key; value = tight_of p.value }

fields-same : (ps : List (Pair Doc)) → map tight_field (map with_text ps) ≡ map tight_pair ps
fields-same [] = refl
fields-same (p ∷ ps) = ap (λ ts. tight_pair p ∷ ts) (fields-same ps)

pub tight-Fields : (ps : List (Pair Doc)) → tight_of (Fields ps) ≡ codes "{" ++ joined (codes ",") (map tight_pair ps) ++ codes "}"
tight-Fields ps =
    ap tight_of (sym (rolls-Fields ps)) ∙ fold-roll-Doc (List ℕ) tight_step (Doc-F.Fields ps)
    ∙ ap (λ ts. codes "{" ++ joined (codes ",") ts ++ codes "}") (fields-same ps)
