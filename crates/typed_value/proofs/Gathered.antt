-- What is read of the parts of a document, all together.
use Rattle.std.proofs.Common.{◌≡◌, ℕ, zero, suc, ◌+◌, ◌<◌, ◌≤◌, List, [], ◌∷◌, ◌++◌, map, length, get_or, take, Option, None, Some, refl, sym, ap, ◌∙◌, arith}
use Rattle.std.specs.Prelude.{option_map, option_and_then}
use Rattle.std.proofs.lemmas.List.{map-append, take_more, take_all, get_or-map, length-map}
use Rattle.json_doc.specs.declared.doc.Doc.{Doc}
use Rattle.json_doc.specs.Grammar.{put_all}
use Rattle.service_model.specs.declared.shape.Member.{Member}
use Rattle.service_model.specs.declared.shape.Shape.{Shape}
use Rattle.service_model.specs.declared.shape.ShapeId.{ShapeId}
use Rattle.texts.specs.declared.pairs.Pair.{Pair}
use Rattle.texts.specs.Keys.{IsNew, IsDistinct, put}
use Rattle.typed_value.specs.declared.typed.Typed.{Typed}
use Rattle.typed_value.specs.declared.typed.Typed.TheVariants.{Items, Fields}
use Rattle.typed_value.specs.Fits.{with_values}
use Rattle.typed_value.specs.Wire.{Reader, all_there, field_read, entry_read, items_read, entries_read, structure_read, read_of}

abbrev pub read_pair : List Shape → Pair Doc → Pair Reader
read_pair shapes p = record { key = p.key; value = read_of shapes p.value }

abbrev pub item_of : List Shape → ShapeId → Doc → Option Typed
item_of shapes item doc = read_of shapes doc item

abbrev pub entry_of : List Shape → ShapeId → Pair Doc → Option (Pair Typed)
entry_of shapes item p = entry_read item (read_pair shapes p)

abbrev pub field_of : List Shape → List Member → Pair Doc → Option (Pair Typed)
field_of shapes members p = field_read members (read_pair shapes p)

push_more : {X : Type 0} (y : X) (os : List (Option X)) (xs : List X) (x : X) (o : Option (List X)) → all_there os ≡ o → option_map (λ ys. y ∷ ys) o ≡ Some xs
    → ((ys : List X) → all_there os ≡ Some ys → all_there (os ++ Some x ∷ []) ≡ Some (ys ++ x ∷ [])) → option_map (λ ys. y ∷ ys) (all_there (os ++ Some x ∷ [])) ≡ Some (xs ++ x ∷ [])
push_more y os xs x None is e ih = absurd (cc)
push_more y os xs x (Some ys) is e ih = let same : y ∷ ys ≡ xs = cc in ap (option_map (λ zs. y ∷ zs)) (ih ys is) ∙ ap (λ zs. Some (zs ++ x ∷ [])) same

-- one more that is there
all-push : {X : Type 0} (os : List (Option X)) (xs : List X) (x : X) → all_there os ≡ Some xs → all_there (os ++ Some x ∷ []) ≡ Some (xs ++ x ∷ [])
all-push [] xs x e = let same : [] ≡ xs = cc in ap (λ ys. Some (ys ++ x ∷ [])) same
all-push (None ∷ os) xs x e = absurd (cc)
all-push (Some y ∷ os) xs x e = push_more y os xs x (all_there os) refl e (λ ys there. all-push os ys x there)

-- one that is missing
all-none : {X : Type 0} (os : List (Option X)) (i : ℕ) → i < length os → get_or os i None ≡ None → all_there os ≡ None
all-none [] i within none = absurd (omega arith)
all-none (o ∷ os) zero within none = ap (option_and_then (λ first. option_map (λ others. first ∷ others) (all_there os))) none
all-none (None ∷ os) (suc i) within none = refl
all-none (Some y ∷ os) (suc i) within none = ap (option_map (λ others. y ∷ others)) (all-none os i (omega arith) none)

module _ {A X : Type 0} (f : A → Option X) (as_read : List A) (i : ℕ) (a : A) (within : i < length as_read) (at : a ≡ get_or as_read i a) where
  pub all-next : (xs : List X) (x : X) → all_there (map f (take i as_read)) ≡ Some xs → f a ≡ Some x → all_there (map f (take (i + 1) as_read)) ≡ Some (xs ++ x ∷ [])
  all-next xs x so_far is =
      let split = take_more as_read i a within ∙ ap (λ y. take i as_read ++ y ∷ []) (sym at) in
      ap (λ ys. all_there (map f ys)) split
      ∙ ap all_there (map-append f (take i as_read) (a ∷ []) ∙ ap (λ o. map f (take i as_read) ++ o ∷ []) is)
      ∙ all-push (map f (take i as_read)) xs x so_far

  pub all-fails : f a ≡ None → all_there (map f as_read) ≡ None
  all-fails none =
      let inside : i < length (map f as_read) = rw length-map within in
      all-none (map f as_read) i inside (get_or-map f as_read i a None within ∙ ap f (sym at) ∙ none)

pub all-end : {A X : Type 0} (f : A → Option X) (as_read : List A) (i : ℕ) (xs : List X) → length as_read ≤ i → all_there (map f (take i as_read)) ≡ Some xs → all_there (map f as_read) ≡ Some xs
all-end f as_read i xs all there = ap (λ ys. all_there (map f ys)) (sym (take_all i as_read all)) ∙ there

twice : {A B C : Type 0} (g : B → C) (f : A → B) (xs : List A) → map g (map f xs) ≡ map (λ x. g (f x)) xs
twice g f [] = refl
twice g f (x ∷ xs) = ap (λ ys. g (f x) ∷ ys) (twice g f xs)

pub items-whole : (shapes : List Shape) (item : ShapeId) (docs : List Doc) → items_read (map (read_of shapes) docs) item ≡ option_map Items (all_there (map (item_of shapes item) docs))
items-whole shapes item docs = ap (λ os. option_map Items (all_there os)) (twice (λ read. read item) (read_of shapes) docs)

pub entries-whole : (shapes : List Shape) (item : ShapeId) (ps : List (Pair Doc))
    → entries_read (with_values (read_of shapes) ps) item ≡ option_map Fields (all_there (map (entry_of shapes item) ps))
entries-whole shapes item ps = ap (λ os. option_map Fields (all_there os)) (twice (entry_read item) (read_pair shapes) ps)

pub structure-whole : (shapes : List Shape) (members : List Member) (ps : List (Pair Doc))
    → structure_read members (with_values (read_of shapes) ps) ≡ option_map (λ qs. Fields (put_all [] qs)) (all_there (map (field_of shapes members) ps))
structure-whole shapes members ps = ap (λ os. option_map (λ qs. Fields (put_all [] qs)) (all_there os)) (twice (field_read members) (read_pair shapes) ps)

pub put_all-push : (ps qs : List (Pair Typed)) (q : Pair Typed) → put_all ps (qs ++ q ∷ []) ≡ put (put_all ps qs) q.key q.value
put_all-push ps [] q = refl
put_all-push ps (m ∷ qs) q = put_all-push (put ps m.key m.value) qs q

new-at : (j k : List ℕ) (ks : List (List ℕ)) (i : ℕ) → IsNew j ks → i < length ks → k ≡ get_or ks i k → j ≡ k → ⊥
new-at j k [] i new within at same = omega arith
new-at j k (x ∷ ks) zero new within at same = new.0 (same ∙ at)
new-at j k (x ∷ ks) (suc i) new within at same = new-at j k ks i new.1 (omega arith) at same

-- of distinct keys, the one at a place is none of those before it
pub new-before : (ks : List (List ℕ)) (i : ℕ) (k : List ℕ) → i < length ks → k ≡ get_or ks i k → IsDistinct ks → IsNew k (take i ks)
new-before [] i k within at distinct = absurd (omega arith)
new-before (j ∷ ks) zero k within at distinct = tt
new-before (j ∷ ks) (suc i) k within at distinct =
    ((λ same. new-at j k ks i distinct.0 (omega arith) at (sym same)), new-before ks i k (omega arith) at distinct.1)
