-- What is set along names is found there, and what stands at other keys stays.
use Rattle.std.proofs.Common.{◌≡◌, ℕ, true, false, if◌then◌else◌, List, [], ◌∷◌, ◌++◌, map, Option, None, Some, option_map, Ok, refl, sym, ap, ◌∙◌, rules}
use Rattle.std.specs.List.{AllByRecursion}
use Rattle.std.specs.Option.{option_flatten}
use Rattle.std.specs.Str.{bytes_eq}
use Rattle.std.proofs.lemmas.Slice.Eq.{bytes_eq-Decides}
use Rattle.json_doc.specs.declared.doc.Doc as doc
use Rattle.json_doc.specs.declared.doc.Doc.{Doc, the_lemmas}
use Rattle.texts.specs.declared.pairs.Pair.{Pair}
use Rattle.texts.specs.Keys.{put, value_at}
use Rattle.jmes_syntax.specs.declared.expr.Expr as expr
use Rattle.jmes_syntax.specs.declared.expr.Expr.{Expr}
use Rattle.jmes_syntax.specs.declared.expr.Operand.{Operand}
use Rattle.jmes_syntax.specs.declared.expr.Step.{Step}
use Rattle.jmes_syntax.specs.declared.expr.Step.TheVariants as step
use Rattle.jmes_syntax.specs.Paths.{IsField, IsPath}
use Rattle.texts.specs.Calls.{◌>>=◌}
use Rattle.jmes_eval.specs.Kinds.{fields_of}
use Rattle.jmes_eval.specs.Meaning.{meaning, run, behind, negated, operand_of, field_of}
use Rattle.jmes_eval.specs.Orders.{doc_or_null}
use Rattle.jmes_eval.specs.Parts.{steps_with, operand_with}
use Rattle.jmes_eval.specs.Setting.{names_in, path_of, pairs_in, pairs_of, set_at, value_along}
use Rattle.jmes_eval.proofs.Meanings.{meaning-Operand}

-- Values among pairs.

same-bytes : (k : List ℕ) → bytes_eq k k ≡ true
same-bytes k = (bytes_eq-Decides k k).1 refl

other-bytes : (k j : List ℕ) → (k ≡ j → ⊥) → bytes_eq k j ≡ false
other-bytes k j apart =
    elim (bytes_eq k j) as (λ b. (b ≡ true → k ≡ j) → b ≡ false) [ true ↦ (λ same. absurd (apart (same refl))) | false ↦ (λ same. refl) ] (bytes_eq-Decides k j).0

value_at-here : (k : List ℕ) (v : Doc) (ps : List (Pair Doc)) → value_at k (record { key = k; value = v } ∷ ps) ≡ Some v
value_at-here k v ps = ap (λ b. if b then Some v else value_at k ps) (same-bytes k)

value_at-there : (k j : List ℕ) (v : Doc) (ps : List (Pair Doc)) → (k ≡ j → ⊥) → value_at j (record { key = k; value = v } ∷ ps) ≡ value_at j ps
value_at-there k j v ps apart = ap (λ b. if b then Some v else value_at j ps) (other-bytes k j apart)

value_at-put : (ps : List (Pair Doc)) (k : List ℕ) (v : Doc) → value_at k (put ps k v) ≡ Some v
value_at-put [] k v = value_at-here k v []
value_at-put (p ∷ ps) k v =
    elim (bytes_eq p.key k) as (λ b. bytes_eq p.key k ≡ b → value_at k (if b then record { key = k; value = v } ∷ ps else p ∷ put ps k v) ≡ Some v) [
      | true ↦ (λ e. value_at-here k v ps)
      | false ↦ (λ e. ap (λ b. if b then Some p.value else value_at k (put ps k v)) e ∙ value_at-put ps k v)
    ] refl

value_at-other : (ps : List (Pair Doc)) (k j : List ℕ) (v : Doc) → (k ≡ j → ⊥) → value_at j (put ps k v) ≡ value_at j ps
value_at-other [] k j v apart = value_at-there k j v [] apart
value_at-other (p ∷ ps) k j v apart =
    elim (bytes_eq p.key k) as (λ b. (b ≡ true → p.key ≡ k) → value_at j (if b then record { key = k; value = v } ∷ ps else p ∷ put ps k v) ≡ value_at j (p ∷ ps)) [
      | true ↦ (λ same. value_at-there k j v ps apart ∙ sym (value_at-there p.key j p.value ps (λ e. apart (sym (same refl) ∙ e))))
      | false ↦ (λ same. ap (λ o. if bytes_eq p.key j then Some p.value else o) (value_at-other ps k j v apart))
    ] (bytes_eq-Decides p.key k).0

-- Fields of objects.

fields_of-Fields : (ps : List (Pair Doc)) → fields_of (doc.Fields ps) ≡ Some ps
fields_of-Fields ps = search (rules, the_lemmas)

pairs_of-Fields : (ps : List (Pair Doc)) → pairs_of (doc.Fields ps) ≡ ps
pairs_of-Fields ps = ap pairs_in (fields_of-Fields ps)

value_among : (k : List ℕ) (o : Option (List (Pair Doc))) → doc_or_null (option_flatten (option_map (value_at k) o)) ≡ doc_or_null (value_at k (pairs_in o))
value_among k None = refl
value_among k (Some ps) = refl

field_of-pairs : (k : List ℕ) (d : Doc) → field_of k d ≡ doc_or_null (value_at k (pairs_of d))
field_of-pairs k d = value_among k (fields_of d)

field_of-put : (ps : List (Pair Doc)) (k : List ℕ) (v : Doc) → field_of k (doc.Fields (put ps k v)) ≡ v
field_of-put ps k v = field_of-pairs k (doc.Fields (put ps k v)) ∙ ap (λ qs. doc_or_null (value_at k qs)) (pairs_of-Fields (put ps k v)) ∙ ap doc_or_null (value_at-put ps k v)

-- Values along names.

set_found : (ks : List (List ℕ)) (value d : Doc) → value_along ks (set_at ks value d) ≡ value
set_found [] value d = refl
set_found (k ∷ ks) value d =
    let inner : Doc = doc_or_null (value_at k (pairs_of d)) in
    ap (value_along ks) (field_of-put (pairs_of d) k (set_at ks value inner)) ∙ set_found ks value inner

pub others_stay : (front back : List (List ℕ)) (k j : List ℕ) (value d : Doc) → (j ≡ k → ⊥)
    → value_at j (pairs_of (value_along front (set_at (front ++ k ∷ back) value d))) ≡ value_at j (pairs_of (value_along front d))
others_stay [] back k j value d apart =
    let x : Doc = set_at back value (doc_or_null (value_at k (pairs_of d))) in
    ap (value_at j) (pairs_of-Fields (put (pairs_of d) k x)) ∙ value_at-other (pairs_of d) k j x (λ e. apart (sym e))
others_stay (f ∷ fs) back k j value d apart =
    let inner : Doc = doc_or_null (value_at f (pairs_of d)) in
    ap (λ x. value_at j (pairs_of (value_along fs x))) (field_of-put (pairs_of d) f (set_at (fs ++ k ∷ back) value inner))
    ∙ others_stay fs back k j value inner apart
    ∙ ap (λ x. value_at j (pairs_of (value_along fs x))) (sym (field_of-pairs f d))

-- Searches along names.

run_names : (steps : List (Step Expr)) → AllByRecursion IsField steps → (d : Doc) → run (steps_with meaning steps) d ≡ Ok (value_along (names_in steps) d)
run_names [] all d = refl
run_names (step.Field k ∷ steps) all d = run_names steps all.1 (field_of k d)
run_names (others ∷ steps) all d = absurd all.0

path_of-Operand : (o : Operand Expr) → path_of (expr.Operand o) ≡ names_in o.chain.first
path_of-Operand o = search (rules, expr.the_lemmas)

operand_along : (o : Operand Expr) (d : Doc) → o.negations ≡ 0 → o.chain.flattened ≡ [] → AllByRecursion IsField o.chain.first → operand_of (operand_with meaning o) d ≡ Ok (value_along (names_in o.chain.first) d)
operand_along o d plain segment names =
    ap (λ r. (r >>= behind (map (steps_with meaning) o.chain.flattened)) >>= (λ x. Ok (negated o.negations x))) (run_names o.chain.first names d)
    ∙ ap (λ more. (behind (map (steps_with meaning) more) (value_along (names_in o.chain.first) d)) >>= (λ x. Ok (negated o.negations x))) segment
    ∙ ap (λ n. Ok (negated n (value_along (names_in o.chain.first) d))) plain

pub search_along : (path : Expr) (d : Doc) → IsPath path → meaning path d ≡ Ok (value_along (path_of path) d)
search_along path d is =
    ap (λ e. meaning e d) is.whole ∙ ap (λ f. f d) (meaning-Operand is.operand) ∙ operand_along is.operand d is.plain is.one_segment is.names
    ∙ ap (λ ks. Ok (value_along ks d)) (sym (ap path_of is.whole ∙ path_of-Operand is.operand))

pub search_set : (path : Expr) (value d : Doc) → IsPath path → meaning path (set_at (path_of path) value d) ≡ Ok value
search_set path value d is = search_along path (set_at (path_of path) value d) is ∙ ap Ok (set_found (path_of path) value d)
