-- The names of shapes, numbered one after another.
use Rattle.std.proofs.Common.{◌≡◌, ℕ, ◌+◌, ◌<◌, nat_eq, true, false, if◌then◌else◌, List, [], ◌∷◌, ◌++◌, length, get_or, take, drop, refl, sym, ap, subst, ◌∙◌}
use Rattle.std.specs.Cmp.Lexicographic.{pointwise}
use Rattle.std.specs.Str.{bytes_eq}
use Rattle.std.proofs.lemmas.List.{take-append-drop, at_drop_more, map_more}
use Rattle.std.proofs.lemmas.Slice.Eq.{bytes_eq-Decides}
use Rattle.indexmap.specs.IndexMap.{insert_entry}
use Rattle.json_doc.specs.declared.doc.Doc.{Doc}
use Rattle.texts.specs.declared.pairs.Pair.{Pair}
use Rattle.texts.specs.Keys.{keys, IsNew, IsDistinct}
use Rattle.json_doc.proofs.Gathering.{IsNew-before}
use Rattle.service_model.specs.declared.numbering.Outline.{Outline}
use Rattle.service_model.specs.Numbering.{Names, names_of, outline_of}

-- a new name is the last
named_last : (ps : List (Pair Doc)) (k : List ℕ) (o : Outline) → IsNew k (keys ps) → insert_entry (pointwise nat_eq) (names_of ps) k o ≡ names_of ps ++ (k, o) ∷ []
named_last [] k o new = refl
named_last (p ∷ ps) k o new =
    elim (bytes_eq k p.key) as (λ b. (b ≡ true → k ≡ p.key)
    → (if b then (p.key, o) ∷ names_of ps else (p.key, outline_of p.value) ∷ insert_entry (pointwise nat_eq) (names_of ps) k o) ≡ (p.key, outline_of p.value) ∷ names_of ps ++ (k, o) ∷ [])
    [ true ↦ (λ same. absurd (new.0 (same refl))) | false ↦ (λ same. ap (λ es. (p.key, outline_of p.value) ∷ es) (named_last ps k o new.1)) ] (bytes_eq-Decides k p.key).0

-- one more shape is numbered
pub names_go : (ps : List (Pair Doc)) (i : ℕ) (p : Pair Doc) (before after : Names) (o : Outline) → i < length ps → p ≡ get_or ps i p → IsDistinct (keys ps)
    → before ≡ names_of (take i ps) → o ≡ outline_of p.value → after ≡ insert_entry (pointwise nat_eq) before p.key o → after ≡ names_of (take (i + 1) ps)
names_go ps i p before after o within is distinct so_far outlined inserted =
    let seam : ps ≡ take i ps ++ p ∷ drop (i + 1) ps =
    sym (take-append-drop i ps) ∙ at_drop_more (λ qs. take i ps ++ qs) ps i p within ∙ ap (λ q. take i ps ++ q ∷ drop (i + 1) ps) (sym is) in
    let new : IsNew p.key (keys (take i ps)) = IsNew-before (take i ps) (drop (i + 1) ps) p (subst (λ qs. IsDistinct (keys qs)) seam distinct) in
    inserted ∙ ap (λ es. insert_entry (pointwise nat_eq) es p.key o) so_far ∙ named_last (take i ps) p.key o new
    ∙ ap (λ x. names_of (take i ps) ++ (p.key, x) ∷ []) outlined
    ∙ ap (λ q. names_of (take i ps) ++ (q.key, outline_of q.value) ∷ []) is
    ∙ sym (map_more (λ q. (q.key, outline_of q.value)) ps i p within)
