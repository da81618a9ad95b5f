-- Equality of lists and of objects.
use Rattle.std.proofs.Common.{◌≡◌, suc, ◌==◌, Bool, true, false, ◌&&◌, List, [], ◌∷◌, map, length, refl, sym, ap, ◌∙◌, arith}
use Rattle.std.specs.List.{list_all}
use Rattle.json_doc.specs.declared.doc.Doc.{Doc, the_lemmas, out-Doc}
use Rattle.json_doc.specs.declared.doc.Doc.TheOpen.{Doc-F}
use Rattle.json_doc.specs.declared.doc.Doc.TheFolds.{fold-roll-Doc}
use Rattle.json_doc.specs.declared.doc.Doc.TheVariants.{Fields, rolls-Fields}
use Rattle.texts.specs.declared.pairs.Pair.{Pair}
use Rattle.jmes_eval.specs.Equality.{Test, same, same_step, each_same, are_fields, has_field, has_doc_field}

abbrev same_pair : Pair Doc → Pair Test
same_pair p = record { key = p.key; value = same p.value }

all-pairs : (ds ps : List (Pair Doc)) → list_all (has_field ds) (map same_pair ps) ≡ list_all (has_doc_field ds) ps
all-pairs ds [] = refl
all-pairs ds (p ∷ ps) = ap (λ b. has_doc_field ds p && b) (all-pairs ds ps)

out-Fields : (ps : List (Pair Doc)) → out-Doc (Fields ps) ≡ Doc-F.Fields ps
out-Fields ps = search (the_lemmas)

length-pairs : (ps : List (Pair Doc)) → length (map same_pair ps) ≡ length ps
length-pairs [] = refl
length-pairs (p ∷ ps) = ap suc (length-pairs ps)

pub same-Fields : (ps ds : List (Pair Doc)) → same (Fields ps) (Fields ds) ≡ (length ps == length ds && list_all (has_doc_field ds) ps)
same-Fields ps ds =
    ap (λ d. same d (Fields ds)) (sym (rolls-Fields ps)) ∙ ap (λ f. f (Fields ds)) (fold-roll-Doc Test same_step (Doc-F.Fields ps))
    ∙ ap (are_fields (map same_pair ps)) (out-Fields ds)
    ∙ ap (λ n. n == length ds && list_all (has_field ds) (map same_pair ps)) (length-pairs ps)
    ∙ ap (λ b. length ps == length ds && b) (all-pairs ds ps)

pub each_same-lengths : (ts : List Test) (ds : List Doc) → (length ts ≡ length ds → ⊥) → each_same ts ds ≡ false
each_same-lengths [] [] other = absurd (other refl)
each_same-lengths [] (d ∷ ds) other = refl
each_same-lengths (t ∷ ts) [] other = refl
each_same-lengths (t ∷ ts) (d ∷ ds) other = rw (each_same-lengths ts ds (λ e. other (omega (arith, e)))) (and-false (t d))
  where
    and-false : (b : Bool) → (b && false) ≡ false
    and-false true = refl
    and-false false = refl

pub length-tests : (ds : List Doc) → length (map same ds) ≡ length ds
length-tests [] = refl
length-tests (d ∷ ds) = ap suc (length-tests ds)
