-- Values set along names, and pairs that are put together again.
use Rattle.std.proofs.Common.{◌≡◌, ℕ, ◌+◌, ◌<◌, List, [], ◌∷◌, ◌++◌, map, length, get_or, drop, Option, refl, sym, ap, subst, ◌∙◌}
use Rattle.std.proofs.lemmas.List.{drop_more, map-append}
use denote.Ref.{Bor}
use Rattle.json_doc.specs.declared.doc.Doc as doc
use Rattle.json_doc.specs.declared.doc.Doc.{Doc}
use Rattle.texts.specs.declared.pairs.Pair.{Pair}
use Rattle.texts.specs.Keys.{keys, put, value_at, IsNew, IsDistinct}
use Rattle.texts.proofs.Keyed.{IsDistinct-put}
use Rattle.jmes_eval.specs.Orders.{doc_or_null}
use Rattle.jmes_eval.specs.Setting.{pairs_of, set_at, objects_along, named_pairs}

-- a value inside these objects, each at the name in the one around it
abbrev pub wrapped : List (List ℕ × List (Pair Doc)) → Doc → Doc
wrapped [] value = value
wrapped (x ∷ xs) value = doc.Fields (put x.1 x.0 (wrapped xs value))

pub wrapped-last : (xs : List (List ℕ × List (Pair Doc))) (x : List ℕ × List (Pair Doc)) (value : Doc) → wrapped (xs ++ x ∷ []) value ≡ wrapped xs (doc.Fields (put x.1 x.0 value))
wrapped-last [] x value = refl
wrapped-last (y ∷ ys) x value = ap (λ d. doc.Fields (put y.1 y.0 d)) (wrapped-last ys x value)

pub wrapped-along : (ks : List (List ℕ)) (value d : Doc) → wrapped (objects_along ks d) value ≡ set_at ks value d
wrapped-along [] value d = refl
wrapped-along (k ∷ ks) value d = ap (λ x. doc.Fields (put (pairs_of d) k x)) (wrapped-along ks value (doc_or_null (value_at k (pairs_of d))))

-- the last object holds what is made, in the objects around it
pub wrapped-pop : (olds news : List (Bor (List ℕ) × Option (Bor (List (Pair Doc))))) (x : Bor (List ℕ) × Option (Bor (List (Pair Doc)))) (made whole : Doc) → olds ≡ news ++ x ∷ [] → wrapped (map named_pairs olds) made ≡ whole
    → wrapped (map named_pairs news) (doc.Fields (put (named_pairs x).1 (named_pairs x).0 made)) ≡ whole
wrapped-pop olds news x made whole e inside =
    sym (wrapped-last (map named_pairs news) (named_pairs x) made) ∙ ap (λ xs. wrapped xs made) (sym (ap (map named_pairs) e ∙ map-append named_pairs news (x ∷ []))) ∙ inside

-- Keys of a part of pairs with distinct keys.

new-front : (k : List ℕ) (xs ys : List (Pair Doc)) → IsNew k (keys (xs ++ ys)) → IsNew k (keys xs)
new-front k [] ys new = tt
new-front k (x ∷ xs) ys new = (new.0, new-front k xs ys new.1)

pub distinct-front : (xs ys : List (Pair Doc)) → IsDistinct (keys (xs ++ ys)) → IsDistinct (keys xs)
distinct-front [] ys distinct = tt
distinct-front (x ∷ xs) ys distinct = (new-front x.key xs ys distinct.0, distinct-front xs ys distinct.1)

other-key : (k : List ℕ) (xs : List (Pair Doc)) (p : Pair Doc) (ys : List (Pair Doc)) → IsNew k (keys (xs ++ p ∷ ys)) → k ≡ p.key → ⊥
other-key k [] p ys new = new.0
other-key k (x ∷ xs) p ys new = other-key k xs p ys new.1

pub new-between : (xs : List (Pair Doc)) (p : Pair Doc) (ys : List (Pair Doc)) → IsDistinct (keys (xs ++ p ∷ ys)) → IsNew p.key (keys xs)
new-between [] p ys distinct = tt
new-between (x ∷ xs) p ys distinct = ((λ e. other-key x.key xs p ys distinct.0 (sym e)), new-between xs p ys distinct.1)

-- the key of a pair is none of those before it
pub new-next : (made all : List (Pair Doc)) (fields : List (Pair Doc)) (i : ℕ) (p : Pair Doc) → i < length fields → p ≡ get_or fields i p → made ++ drop i fields ≡ all → IsDistinct (keys all) → IsNew p.key (keys made)
new-next made all fields i p less at whole distinct =
    new-between made p (drop (i + 1) fields)
    (subst (λ ps. IsDistinct (keys ps)) (sym whole ∙ ap (λ ps. made ++ ps) (drop_more fields i p less ∙ ap (λ q. q ∷ drop (i + 1) fields) (sym at))) distinct)

-- the pairs with a value put at a key are distinct where these are
pub put-distinct : (fields whole : List (Pair Doc)) (k : List ℕ) (v : Doc) → put fields k v ≡ whole → IsDistinct (keys fields) → IsDistinct (keys whole)
put-distinct fields whole k v e distinct = subst (λ ps. IsDistinct (keys ps)) e (IsDistinct-put fields k v distinct)
