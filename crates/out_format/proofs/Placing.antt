-- Members that are put into their places, one after another, as a map by their keys' bytes holds them.
use Rattle.std.proofs.Common.{◌≡◌, ℕ, ◌+◌, ◌<◌, Bool, true, false, if◌then◌else◌, List, [], ◌∷◌, ◌++◌, map, drop, length, get_or, Option, Some, None, refl, sym, ap, ◌∙◌, arith}
use denote.Param.Weighed.{most}
use Rattle.std.specs.Prelude.{filter, encode_utf8_all, is_some}
use Rattle.std.specs.Borrow.{Bor}
use Rattle.std.specs.Option.{option_map}
use Rattle.std.specs.List.{AllByRecursion, flat_map}
use Rattle.std.specs.BTreeMap.{insert_entry, is_at}
use Rattle.std.specs.Map.{lookup}
use Rattle.std.specs.declared.cmp.Ordering.{Ordering}
use Rattle.std.specs.declared.cmp.Ordering.TheVariants.{Less, Equal, Greater}
use Rattle.std.specs.Ordering.{nat_cmp, match_ordering, is_eq}
use Rattle.std.specs.Cmp.Lexicographic.{slice_cmp}
use Rattle.std.specs.FinMap.{slice_cmp-IsAntisymmetric, nat_cmp-IsAntisymmetric}
use Rattle.std.proofs.lemmas.List.{at_drop_more}
use Rattle.json_doc.specs.declared.doc.Doc.{Doc, out-Doc, size-Doc}
use Rattle.texts.specs.declared.pairs.Pair.{Pair}
use Rattle.texts.specs.Keys.{keys}
use Rattle.out_format.specs.Borrowed.{Entry, IsKeyed, AreKeyed, members_of, with_text}
use Rattle.out_format.specs.Layers.{layer_of, scalar_of, is_scalar, fields_in}
use Rattle.out_format.proofs.Layering.{on_value, fields_in-map, fields-below}
use Rattle.texts.specs.Order.{text_cmp}
use Rattle.texts.proofs.ByteOrder.{text_cmp-bytes}
use Rattle.out_format.specs.Members.{placed, all_placed, sorted, scalar_members, columns, member_at, cell_at, object_cells}

abbrev bytes_cmp : Bor (List ℕ) → Bor (List ℕ) → Ordering
bytes_cmp a b = slice_cmp nat_cmp a.now b.now

same_order : (e f : Entry) → IsKeyed e → IsKeyed f → bytes_cmp e.0 f.0 ≡ text_cmp e.1.now.key f.1.now.key
same_order e f a b = rw (a, b) (text_cmp-bytes e.1.now.key f.1.now.key)

members_choice : (o : Ordering) (a b c : List Entry) → members_of (match_ordering o a b c) ≡ match_ordering o (members_of a) (members_of b) (members_of c)
members_choice Less a b c = refl
members_choice Equal a b c = refl
members_choice Greater a b c = refl

-- the members after an insertion
pub insert_placed : (es : List Entry) (k : Bor (List ℕ)) (p : Bor (Pair Doc)) → AreKeyed es → IsKeyed (k, p) → members_of (insert_entry bytes_cmp es k p) ≡ placed (members_of es) p.now
insert_placed [] k p all is = refl
insert_placed (e ∷ es) k p all is =
    let before : List (Pair Doc) = p.now ∷ e.1.now ∷ members_of es in
    let here : List (Pair Doc) = p.now ∷ members_of es in
    members_choice (bytes_cmp k e.0) ((k, p) ∷ e ∷ es) ((e.0, p) ∷ es) (e ∷ insert_entry bytes_cmp es k p)
    ∙ ap (λ o. match_ordering o before here (e.1.now ∷ members_of (insert_entry bytes_cmp es k p))) (same_order (k, p) e is all.0)
    ∙ ap (λ ms. match_ordering (text_cmp p.now.key e.1.now.key) before here (e.1.now ∷ ms)) (insert_placed es k p all.1 is)

keyed_choice : (o : Ordering) (e : Entry) (k : Bor (List ℕ)) (p : Bor (Pair Doc)) (es rest : List Entry) → bytes_cmp k e.0 ≡ o
    → IsKeyed (k, p) → IsKeyed e → AreKeyed es → AreKeyed rest → AreKeyed (match_ordering o ((k, p) ∷ e ∷ es) ((e.0, p) ∷ es) (e ∷ rest))
keyed_choice Less e k p es rest o is keyed all more = (is, (keyed, all))
keyed_choice Equal e k p es rest o is keyed all more = (sym (slice_cmp-IsAntisymmetric nat_cmp-IsAntisymmetric k.now e.0.now o) ∙ is, all)
keyed_choice Greater e k p es rest o is keyed all more = (keyed, more)

pub insert_keyed : (es : List Entry) (k : Bor (List ℕ)) (p : Bor (Pair Doc)) → AreKeyed es → IsKeyed (k, p) → AreKeyed (insert_entry bytes_cmp es k p)
insert_keyed [] k p all is = (is, tt)
insert_keyed (e ∷ es) k p all is = keyed_choice (bytes_cmp k e.0) e k p es (insert_entry bytes_cmp es k p) refl is all.0 all.1 (insert_keyed es k p all.1 is)

-- the members that are left, after one of them was put into its place
pub placed_more : {X : Type 0} (ps : List (Pair X)) (i : ℕ) (d : Pair X) (done : List (Pair X)) → i < length ps
    → all_placed (placed done (get_or ps i d)) (drop (i + 1) ps) ≡ all_placed done (drop i ps)
placed_more ps i d done within = sym (at_drop_more (all_placed done) ps i d within)

placed_choice : {X : Type 0} (p : Pair X → Bool) (b : Bool) (q : Pair X) (qs done : List (Pair X)) → p q ≡ b
    → all_placed done (filter p (q ∷ qs)) ≡ (if b then all_placed (placed done q) (filter p qs) else all_placed done (filter p qs))
placed_choice p true q qs done is = rw is refl
placed_choice p false q qs done is = rw is refl

pub filtered_more : {X : Type 0} (p : Pair X → Bool) (b : Bool) (ps : List (Pair X)) (i : ℕ) (d : Pair X) (done : List (Pair X)) → i < length ps → p (get_or ps i d) ≡ b
    → all_placed done (filter p (drop i ps)) ≡ (if b then all_placed (placed done (get_or ps i d)) (filter p (drop (i + 1) ps)) else all_placed done (filter p (drop (i + 1) ps)))
filtered_more p b ps i d done within is =
    at_drop_more (λ qs. all_placed done (filter p qs)) ps i d within ∙ placed_choice p b (get_or ps i d) (drop (i + 1) ps) done is

pub all_placed-append : {X : Type 0} (done xs ys : List (Pair X)) → all_placed done (xs ++ ys) ≡ all_placed (all_placed done xs) ys
all_placed-append done [] ys = refl
all_placed-append done (x ∷ xs) ys = all_placed-append (placed done x) xs ys

-- where a function keeps the keys, it may come before or after

map_choice : {X Y : Type 0} (f : X → Y) (o : Ordering) (a b c : List X) → map f (match_ordering o a b c) ≡ match_ordering o (map f a) (map f b) (map f c)
map_choice f Less a b c = refl
map_choice f Equal a b c = refl
map_choice f Greater a b c = refl

placed-map : {X Y : Type 0} (f : X → Y) (qs : List (Pair X)) (p : Pair X) → map (on_value f) (placed qs p) ≡ placed (map (on_value f) qs) (on_value f p)
placed-map f [] p = refl
placed-map f (q ∷ qs) p =
    map_choice (on_value f) (text_cmp p.key q.key) (p ∷ q ∷ qs) (p ∷ qs) (q ∷ placed qs p)
    ∙ ap (λ rest. match_ordering (text_cmp p.key q.key) (on_value f p ∷ on_value f q ∷ map (on_value f) qs) (on_value f p ∷ map (on_value f) qs) (on_value f q ∷ rest)) (placed-map f qs p)

all_placed-map : {X Y : Type 0} (f : X → Y) (done ps : List (Pair X)) → map (on_value f) (all_placed done ps) ≡ all_placed (map (on_value f) done) (map (on_value f) ps)
all_placed-map f done [] = refl
all_placed-map f done (p ∷ ps) = all_placed-map f (placed done p) ps ∙ ap (λ qs. all_placed qs (map (on_value f) ps)) (placed-map f done p)

pub sorted-map : {X Y : Type 0} (f : X → Y) (ps : List (Pair X)) → map (on_value f) (sorted ps) ≡ sorted (map (on_value f) ps)
sorted-map f ps = all_placed-map f [] ps

-- look-ups

found_choice : (b : Bool) (x : Option (Bor (Pair Doc))) (p : Bor (Pair Doc)) (y : Option Doc) → option_map (λ q. q.now.value) x ≡ y
    → option_map (λ q. q.now.value) (if b then Some p else x) ≡ (if b then Some p.now.value else y)
found_choice true x p y e = refl
found_choice false x p y e = e

pub found : (es : List Entry) (k : Bor (List ℕ)) (key : List ℕ) → k.now ≡ encode_utf8_all key → AreKeyed es
    → option_map (λ p. p.now.value) (lookup (is_at (bytes_cmp k)) es) ≡ member_at key (members_of es)
found [] k key is all = refl
found (e ∷ es) k key is all =
    found_choice (is_eq (bytes_cmp k e.0)) (lookup (is_at (bytes_cmp k)) es) e.1 (member_at key (members_of es)) (found es k key is all.1)
    ∙ ap (λ o. if is_eq o then Some e.1.now.value else member_at key (members_of es)) (ap (λ b. slice_cmp nat_cmp b e.0.now) is ∙ ap (slice_cmp nat_cmp (encode_utf8_all key)) all.0 ∙ text_cmp-bytes key e.1.now.key)

-- scalar members of documents

abbrev pub scalar_fields : Doc → List (Pair Doc)
scalar_fields doc = filter (λ p. is_scalar (out-Doc p.value)) (fields_in (out-Doc doc))

filter_choice : (b : Bool) (p : Pair Doc) (ps : List (Pair Doc)) (qs : List (Pair (Option (List ℕ)))) → map with_text ps ≡ qs
    → map with_text (if b then p ∷ ps else ps) ≡ (if b then with_text p ∷ qs else qs)
filter_choice true p ps qs e = ap (λ rs. with_text p ∷ rs) e
filter_choice false p ps qs e = e

filtered-texts : (ps : List (Pair Doc)) → map with_text (filter (λ p. is_scalar (out-Doc p.value)) ps) ≡ filter (λ p. is_some p.value) (map with_text ps)
filtered-texts [] = refl
filtered-texts (p ∷ ps) = filter_choice (is_scalar (out-Doc p.value)) p (filter (λ q. is_scalar (out-Doc q.value)) ps) (filter (λ q. is_some q.value) (map with_text ps)) (filtered-texts ps)

fields-texts : (d : Doc) → map with_text (scalar_fields d) ≡ scalar_members (layer_of d)
fields-texts d = filtered-texts (fields_in (out-Doc d)) ∙ ap (filter (λ p. is_some p.value)) (sym (fields_in-map scalar_of (out-Doc d)))

map-append : {X Y : Type 0} (f : X → Y) (xs ys : List X) → map f (xs ++ ys) ≡ map f xs ++ map f ys
map-append f [] ys = refl
map-append f (x ∷ xs) ys = ap (λ zs. f x ∷ zs) (map-append f xs ys)

all-texts : (ds : List Doc) → map with_text (flat_map scalar_fields ds) ≡ flat_map scalar_members (map layer_of ds)
all-texts [] = refl
all-texts (d ∷ ds) =
    map-append with_text (scalar_fields d) (flat_map scalar_fields ds)
    ∙ ap (λ ps. ps ++ map with_text (flat_map scalar_fields ds)) (fields-texts d)
    ∙ ap (λ ps. scalar_members (layer_of d) ++ ps) (all-texts ds)

keys-texts : (ps : List (Pair Doc)) → keys (map with_text ps) ≡ keys ps
keys-texts [] = refl
keys-texts (p ∷ ps) = ap (λ ks. p.key ∷ ks) (keys-texts ps)

-- the columns of documents
pub columns-docs : (ds : List Doc) → keys (sorted (flat_map scalar_fields ds)) ≡ columns (map layer_of ds)
columns-docs ds =
    sym (keys-texts (sorted (flat_map scalar_fields ds))) ∙ ap keys (sorted-map scalar_of (flat_map scalar_fields ds) ∙ ap sorted (all-texts ds))

pub docs_more : (ds : List Doc) (i : ℕ) (d : Doc) (done : List (Pair Doc)) → i < length ds
    → all_placed done (flat_map scalar_fields (drop i ds)) ≡ all_placed (all_placed done (scalar_fields (get_or ds i d))) (flat_map scalar_fields (drop (i + 1) ds))
docs_more ds i d done within =
    at_drop_more (λ es. all_placed done (flat_map scalar_fields es)) ds i d within
    ∙ all_placed-append done (scalar_fields (get_or ds i d)) (flat_map scalar_fields (drop (i + 1) ds))

-- the text at a key is that of the value there

text_choice : (b : Bool) (p : Pair Doc) (x : Option Doc) (y : Option (Option (List ℕ))) → option_map scalar_of x ≡ y
    → option_map scalar_of (if b then Some p.value else x) ≡ (if b then Some (scalar_of p.value) else y)
text_choice true p x y e = refl
text_choice false p x y e = e

texts_at : (key : List ℕ) (ps : List (Pair Doc)) → option_map scalar_of (member_at key ps) ≡ member_at key (map with_text ps)
texts_at key [] = refl
texts_at key (p ∷ ps) = text_choice (is_eq (text_cmp key p.key)) p (member_at key ps) (member_at key (map with_text ps)) (texts_at key ps)

borrowed_text : (r : Option (Bor (Pair Doc))) → option_map (λ p. scalar_of p.now.value) r ≡ option_map scalar_of (option_map (λ p. p.now.value) r)
borrowed_text None = refl
borrowed_text (Some p) = refl

pub text_at : (key : List ℕ) (ps : List (Pair Doc)) (r : Option (Bor (Pair Doc))) → option_map (λ p. p.now.value) r ≡ member_at key ps
    → option_map (λ p. scalar_of p.now.value) r ≡ member_at key (map with_text ps)
text_at key ps r e = borrowed_text r ∙ ap (option_map scalar_of) e ∙ texts_at key ps

-- what holds of each member holds of the sorted ones

all_choice : {X : Type 0} (P : Pair X → Type 0) (o : Ordering) (a b c : List (Pair X)) → AllByRecursion P a → AllByRecursion P b → AllByRecursion P c → AllByRecursion P (match_ordering o a b c)
all_choice P Less a b c x y z = x
all_choice P Equal a b c x y z = y
all_choice P Greater a b c x y z = z

all-placed : {X : Type 0} (P : Pair X → Type 0) (qs : List (Pair X)) (p : Pair X) → AllByRecursion P qs → P p → AllByRecursion P (placed qs p)
all-placed P [] p all is = (is, tt)
all-placed P (q ∷ qs) p all is = all_choice P (text_cmp p.key q.key) (p ∷ q ∷ qs) (p ∷ qs) (q ∷ placed qs p) (is, all) (is, all.1) (all.0, all-placed P qs p all.1 is)

all-all_placed : {X : Type 0} (P : Pair X → Type 0) (done ps : List (Pair X)) → AllByRecursion P done → AllByRecursion P ps → AllByRecursion P (all_placed done ps)
all-all_placed P done [] all due = all
all-all_placed P done (p ∷ ps) all due = all-all_placed P (placed done p) ps (all-placed P done p all due.0) due.1

pub all-sorted : {X : Type 0} (P : Pair X → Type 0) (ps : List (Pair X)) → AllByRecursion P ps → AllByRecursion P (sorted ps)
all-sorted P ps all = all-all_placed P [] ps tt all

most_over : (n : ℕ) (ps : List (Pair Doc)) → most (λ p. size-Doc p.value) ps < n → AllByRecursion (λ p. size-Doc p.value < n) ps
most_over n [] less = tt
most_over n (p ∷ ps) less = (omega (arith, less), most_over n ps (omega (arith, less)))

-- the members of a document are smaller than it
pub members-smaller : (d : Doc) → AllByRecursion (λ p. size-Doc p.value < size-Doc d) (sorted (fields_in (out-Doc d)))
members-smaller d = all-sorted (λ p. size-Doc p.value < size-Doc d) (fields_in (out-Doc d)) (most_over (size-Doc d) (fields_in (out-Doc d)) (fields-below d))

-- an object's cells

pub object_cells-same : (d : Doc) (ks : List (List ℕ)) (members : List (Pair Doc)) → members ≡ sorted (fields_in (out-Doc d))
    → map (cell_at (map with_text members)) ks ≡ object_cells ks (layer_of d)
object_cells-same d ks members is =
    ap (λ ms. map (cell_at ms) ks) (ap (map with_text) is ∙ sorted-map scalar_of (fields_in (out-Doc d)) ∙ ap sorted (sym (fields_in-map scalar_of (out-Doc d))))
