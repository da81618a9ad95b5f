-- Tables of values: their lengths, and where one is cut.
use Rattle.std.proofs.Common.{◌≡◌, ℕ, suc, ◌+◌, ◌-◌, ◌≤◌, List, [], ◌∷◌, ◌++◌, map, length, get_or, set, take, drop, ◌<◌, refl, sym, ap, ◌∙◌, subst, append_assoc, append-nil, zero-add, slice_get, Some, None, arith}
use Rattle.std.specs.Prelude.{sum}
use Rattle.std.proofs.lemmas.List.{take_more, take_all, take_rest, length-append, length-take-le, drop-drop}
use Rattle.std.proofs.lemmas.List.Sums.{sum_by-cons}
use Rattle.std.proofs.Math.Seq.{set-append_seam}
use Rattle.texts.specs.declared.pairs.Pair.{Pair}
use Rattle.typed_value.specs.declared.node.Node.{Node}
use Rattle.typed_value.specs.declared.typed.Typed.{Typed, out-Typed, map-Typed}
use Rattle.typed_value.specs.declared.typed.Typed.TheOpen.{Typed-F}
use Rattle.typed_value.specs.declared.typed.Typed.TheFolds.{fold_out-Typed}
use Rattle.typed_value.specs.Inside.{IsTableOf, AddsNodes}
use Rattle.typed_value.specs.Tables.{parts_in, count_step, count_of, AreNodes, root_of, IsTable}

-- how many nodes these values have
abbrev pub size_of : List Typed → ℕ
size_of vs = sum (map count_of vs)

abbrev counted : Pair Typed → Pair ℕ
counted p = record { key = p.key; value = count_of p.value }

values-counted : (ps : List (Pair Typed)) → map (λ p. p.value) (map counted ps) ≡ map count_of (map (λ p. p.value) ps)
values-counted [] = refl
values-counted (p ∷ ps) = ap (λ ns. count_of p.value ∷ ns) (values-counted ps)

parts-counted : (x : Typed-F Typed) → parts_in (map-Typed Typed ℕ count_of x) ≡ map count_of (parts_in x)
parts-counted Typed-F.Null = refl
parts-counted (Typed-F.Text t) = refl
parts-counted (Typed-F.Int n) = refl
parts-counted (Typed-F.Number n) = refl
parts-counted (Typed-F.Flag flag) = refl
parts-counted (Typed-F.Blob bytes) = refl
parts-counted (Typed-F.Moment t) = refl
parts-counted (Typed-F.Items vs) = refl
parts-counted (Typed-F.Fields ps) = values-counted ps
parts-counted (Typed-F.Any doc) = refl

pub count-parts : (v : Typed) → count_of v ≡ size_of (parts_in (out-Typed v)) + 1
count-parts v = fold_out-Typed ℕ count_step v ∙ ap (λ ns. sum ns + 1) (parts-counted (out-Typed v))

size_of-cons : (u : Typed) (us : List Typed) → size_of (u ∷ us) ≡ count_of u + size_of us
size_of-cons u us = sum_by-cons (λ n. n) (count_of u) (map count_of us)

size_of-append : (us vs : List Typed) → size_of (us ++ vs) ≡ size_of us + size_of vs
size_of-append [] vs = sym (zero-add (size_of vs))
size_of-append (u ∷ us) vs = omega (arith, size_of-append us vs, size_of-cons u us, size_of-cons u (us ++ vs))

-- behind the first node of a value stand its parts
size-step : (u : Typed) (us : List Typed) → size_of (u ∷ us) ≡ suc (size_of (parts_in (out-Typed u) ++ us))
size-step u us = omega (arith, count-parts u, size_of-cons u us, size_of-append (parts_in (out-Typed u)) us)

pub length-nodes : (ns : List Node) (vs : List Typed) → AreNodes ns vs → length ns ≡ size_of vs
length-nodes [] [] h = refl
length-nodes [] (v ∷ vs) h = absurd h
length-nodes (n ∷ ns) [] h = absurd h
length-nodes (n ∷ ns) (v ∷ vs) h = omega (arith, length-nodes ns (parts_in (out-Typed v) ++ vs) h.2, size-step v vs)

pub nodes-append : (ms ns : List Node) (us vs : List Typed) → AreNodes ms us → AreNodes ns vs → AreNodes (ms ++ ns) (us ++ vs)
nodes-append [] ns [] vs h k = k
nodes-append [] ns (u ∷ us) vs h k = absurd h
nodes-append (m ∷ ms) ns [] vs h k = absurd h
nodes-append (m ∷ ms) ns (u ∷ us) vs h k =
    (h.0, h.1, subst (AreNodes (ms ++ ns)) (append_assoc (parts_in (out-Typed u)) us vs) (nodes-append ms ns (parts_in (out-Typed u) ++ us) vs h.2 k))

-- the nodes of the first values, and those of the others
pub nodes-cut : (ns : List Node) (us vs : List Typed) → AreNodes ns (us ++ vs) → AreNodes (take (size_of us) ns) us × AreNodes (drop (size_of us) ns) vs
nodes-cut [] [] vs h = (tt, h)
nodes-cut [] (u ∷ us) vs h = absurd h
nodes-cut (n ∷ ns) [] vs h = (tt, h)
nodes-cut (n ∷ ns) (u ∷ us) vs h =
    let due = parts_in (out-Typed u) ++ us in
    let both = nodes-cut ns due vs (subst (AreNodes ns) (sym (append_assoc (parts_in (out-Typed u)) us vs)) h.2) in
    let P : ℕ → Type 0 = λ k. AreNodes (take k (n ∷ ns)) (u ∷ us) × AreNodes (drop k (n ∷ ns)) vs in
    subst P (sym (size-step u us)) ((h.0, h.1, both.0), both.1)

-- nodes of one value are its table
pub table_of : (ns : List Node) (v : Typed) → AreNodes ns (v ∷ []) → IsTableOf ns v
table_of [] v h = absurd h
table_of (n ∷ ns) v h = (subst (λ x. AreNodes (n ∷ ns) (x ∷ [])) (sym h.0) h, h.0)

pub table-count : (ns : List Node) (v : Typed) → IsTable ns → root_of ns ≡ v → length ns ≡ count_of v
table-count ns v table root =
    let sized = length-nodes ns (root_of ns ∷ []) table in
    let one : length ns ≡ count_of (root_of ns) = omega (arith, sized) in
    one ∙ ap count_of root

size-one : (v : Typed) → size_of (v ∷ []) ≡ count_of v
size-one v = omega (arith, size_of-cons v [])

-- the nodes of the first of these values, and those of the others
pub table-cut : (ns : List Node) (size : ℕ) (v : Typed) (vs : List Typed) → AreNodes ns (v ∷ vs) → size ≡ count_of v
    → IsTableOf (take size ns) v × AreNodes (drop size ns) vs
table-cut ns size v vs h e =
    let both = nodes-cut ns (v ∷ []) vs h in
    let P : ℕ → Type 0 = λ k. IsTableOf (take k ns) v × AreNodes (drop k ns) vs in
    subst P (size-one v ∙ sym e) (table_of (take (size_of (v ∷ [])) ns) v both.0, both.1)

-- the first value has all of its nodes
pub table-within : (ns : List Node) (v : Typed) (vs : List Typed) → AreNodes ns (v ∷ vs) → count_of v ≤ length ns
table-within ns v vs h = omega (arith, length-nodes ns (v ∷ vs) h, size_of-cons v vs)

pub head-count : (ns : List Node) (n : Node) (v : Typed) (vs : List Typed) → Some n ≡ slice_get ns 0 → AreNodes ns (v ∷ vs) → n.below + 1 ≡ count_of v
head-count [] n v vs first h = absurd h
head-count (m ∷ ms) n v vs first h = let same : n ≡ m = cc in ap (λ x. x.below + 1) same ∙ h.1

pub no-head : (ns : List Node) (v : Typed) (vs : List Typed) → None ≡ slice_get ns 0 → AreNodes ns (v ∷ vs) → ⊥
no-head [] v vs none h = h
no-head (m ∷ ms) v vs none h = cc

-- a value's nodes within a table, and what stands behind them
module _ (nodes : List Node) (start size : ℕ) (v : Typed) (vs : List Typed) where
  pub part-own : AreNodes (drop start nodes) (v ∷ vs) → size ≡ count_of v → IsTableOf (take size (take (length nodes - start) (drop start nodes))) v
  part-own h e = subst (λ ns. IsTableOf (take size ns) v) (sym (take_rest nodes start)) (table-cut (drop start nodes) size v vs h e).0

  pub part-others : AreNodes (drop start nodes) (v ∷ vs) → size ≡ count_of v
      → AreNodes (drop (start + length (take size (take (length nodes - start) (drop start nodes)))) nodes) vs
  part-others h e =
      let enough : size ≤ length (drop start nodes) = omega (arith, e, table-within (drop start nodes) v vs h) in
      let sized = ap (λ ns. length (take size ns)) (take_rest nodes start) ∙ length-take-le size (drop start nodes) enough in
      let place = ap (λ k. drop (start + k) nodes) sized ∙ sym (drop-drop size start nodes) in
      subst (λ ns. AreNodes ns vs) (sym place) (table-cut (drop start nodes) size v vs h e).1

-- The nodes are laid one after another.
pub adds-none : (old : List Node) → AddsNodes old [] old
adds-none old = record { added = []; whole = sym (append-nil old); nodes = tt }

pub adds-more : (old new newer : List Node) (us vs : List Typed) → AddsNodes old us new → AddsNodes new vs newer → AddsNodes old (us ++ vs) newer
adds-more old new newer us vs h k = record {
  added = h.added ++ k.added;
  whole = k.whole ∙ ap (λ ns. ns ++ k.added) h.whole ∙ append_assoc old h.added k.added;
  nodes = nodes-append h.added k.added us vs h.nodes k.nodes;
}

-- one value more of a list
pub adds-next : (old new newer : List Node) (vs : List Typed) (i : ℕ) (v : Typed) → i < length vs → v ≡ get_or vs i v
    → AddsNodes old (take i vs) new → AddsNodes new (v ∷ []) newer → AddsNodes old (take (i + 1) vs) newer
adds-next old new newer vs i v within at h k =
    let next = take_more vs i v within ∙ ap (λ x. take i vs ++ x ∷ []) (sym at) in
    subst (λ us. AddsNodes old us newer) (sym next) (adds-more old new newer (take i vs) (v ∷ []) h k)

pub adds-all : (old new : List Node) (vs : List Typed) (i : ℕ) → length vs ≤ i → AddsNodes old (take i vs) new → AddsNodes old vs new
adds-all old new vs i all h = subst (λ us. AddsNodes old us new) (take_all i vs all) h

-- a node, behind which its parts were laid, gets their number
pub adds-own : (old made : List Node) (first n : Node) (v : Typed) (at : ℕ) → AddsNodes (old ++ first ∷ []) (parts_in (out-Typed v)) made
    → at ≡ length old → n.value.now ≡ v → n.below ≡ length made - at - 1 → AddsNodes old (v ∷ []) (set made at n)
adds-own old made first n v at h place value below =
    let laid = h.whole ∙ append_assoc old (first ∷ []) h.added in
    let sized = length-nodes h.added (parts_in (out-Typed v)) h.nodes in
    let total = ap length laid ∙ length-append old (first ∷ h.added) in
    record {
      added = n ∷ h.added;
      whole = ap (λ k. set made k n) place ∙ ap (λ ns. set ns (length old) n) laid ∙ set-append_seam old first h.added n;
      nodes = (value, omega (arith, total, sized, below, place, count-parts v), subst (AreNodes h.added) (sym (append-nil (parts_in (out-Typed v)))) h.nodes);
    }

-- the law
pub one_value : (nodes : List Node) (a b : Typed) → AreNodes nodes (a ∷ []) → AreNodes nodes (b ∷ []) → a ≡ b
one_value [] a b h k = absurd h
one_value (n ∷ ns) a b h k = sym h.0 ∙ k.0
