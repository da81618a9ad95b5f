-- Steps over the nodes of the parts of a value.
use Rattle.std.proofs.Common.{◌≡◌, ℕ, ◌+◌, ◌<◌, List, [], ◌∷◌, length, map, get_or, drop, sym, ap, subst, ◌∙◌}
use Rattle.std.proofs.lemmas.List.{drop_more, length-map, get_or-map, get_or_default}
use Rattle.texts.specs.declared.pairs.Pair.{Pair}
use Rattle.typed_value.specs.declared.node.Node.{Node}
use Rattle.typed_value.specs.declared.typed.Typed.{Typed}
use Rattle.typed_value.specs.declared.typed.Typed.TheVariants.{Null}
use Rattle.typed_value.specs.Tables.{AreNodes}

-- the nodes of the value at a place come next
pub next-nodes : (ns : List Node) (vs : List Typed) (i : ℕ) (v : Typed) → i < length vs → v ≡ get_or vs i v → AreNodes ns (drop i vs) → AreNodes ns (v ∷ drop (i + 1) vs)
next-nodes ns vs i v within at h = subst (AreNodes ns) (drop_more vs i v within ∙ ap (λ x. x ∷ drop (i + 1) vs) (sym at)) h

-- what stands where there is no entry
abbrev pub no_entry : Pair Typed
no_entry = record { key = []; value = Null }

-- the nodes of the value of the entry at a place come next
pub next-field : (ns : List Node) (ps : List (Pair Typed)) (i : ℕ) (p : Pair Typed) → i < length ps → p ≡ get_or ps i p → AreNodes ns (drop i (map (λ q. q.value) ps))
    → AreNodes ns (p.value ∷ drop (i + 1) (map (λ q. q.value) ps))
next-field ns ps i p within at h =
    let values = map (λ q. q.value) ps in
    let inside : i < length values = rw length-map within in
    next-nodes ns values i p.value inside (ap (λ q. q.value) at ∙ sym (get_or-map (λ q. q.value) ps i p p.value within)) h

pub next-entry : (ns : List Node) (ps : List (Pair Typed)) (i : ℕ) → i < length ps → AreNodes ns (drop i (map (λ q. q.value) ps))
    → AreNodes ns ((get_or ps i no_entry).value ∷ drop (i + 1) (map (λ q. q.value) ps))
next-entry ns ps i within h = next-field ns ps i (get_or ps i no_entry) within (get_or_default ps i no_entry (get_or ps i no_entry) within) h
