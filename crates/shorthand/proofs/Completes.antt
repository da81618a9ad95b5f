-- Whatever is read of a text, something goes on with it to its end.
use Rattle.std.proofs.Common.{◌≡◌, ◌⊎◌, inl, inr, ⊎_elim, ℕ, zero, suc, ◌+◌, ◌<◌, ◌==◌, Bool, true, false, ◌&&◌, List, [], ◌∷◌, ◌++◌, length, refl, sym, ap, subst, ◌∙◌, arith, append-nil, append_assoc}
use Rattle.std.proofs.lemmas.List.{length-append}
use Rattle.std.proofs.lemmas.Bool.{eq-eqb, eqb-false, or_left, or_right, and_from, lt-ltb, and_parts}
use Rattle.std.specs.List.{list_all}
use Rattle.texts.specs.declared.pairs.Pair.{Pair}
use Rattle.texts.specs.Keys.{keys, IsNew, IsDistinct}
use Rattle.texts.proofs.Keyed.{IsDistinct-push}
use Rattle.shorthand.specs.declared.begun.Begun.{Begun}
use Rattle.shorthand.specs.declared.begun.Group.{Group}
use Rattle.shorthand.specs.declared.begun.Group.TheVariants as group
use Rattle.shorthand.specs.declared.places.Place.{Place}
use Rattle.shorthand.specs.declared.places.Place.TheVariants as place
use Rattle.shorthand.specs.declared.places.Run.TheVariants as run
use Rattle.shorthand.specs.declared.short.Short.{Short}
use Rattle.shorthand.specs.declared.short.Short.TheVariants.{Word, Items, Fields}
use Rattle.shorthand.specs.Grammar.{is_key_char, ends_bare, begins_with, pair_of, IsKey, BeginsPair, EndsBare, Bare, Quoted, Value, Inside, MoreItems, MorePairs, PairAt, Values}
use Rattle.shorthand.specs.Reading.{with_value}
use Rattle.shorthand.proofs.Characters.{ends_not, untrue, begins_bare, pair_char}
use Rattle.shorthand.proofs.Goes.{PairsGo, Closes, Behind, ValueGoes, PairGoes, BareGoes, Goes, spaced}
use Rattle.shorthand.proofs.GroupSteps.{all_pairs, IsProper, distinct_all, values_none, no_more_values}
use Rattle.shorthand.proofs.CommaSteps.{item_comma, value_comma, run_value, spaced_key}
use Rattle.shorthand.proofs.Kept.{Stands, AreProper, IsValid, stands_with, around, proper_of}

-- what ends a value without quotes in so many brackets, and is no comma
pub record IsClosing (n : ℕ) (ts : List ℕ) : Type 0 where
  pub ends : EndsBare n ts
  pub no_comma : begins_with 44 ts ≡ false

abbrev pub SomeOf : List Group → (Short → List ℕ → Type 0) → Type 0
SomeOf os G = (ts : List ℕ) × (t : Short) × G t ts × IsClosing (length os) ts

close_ends : (os : List Group) (o : Group) (ts : List ℕ) (c : ℕ) → (c ≡ 93) ⊎ (c ≡ 125) → IsClosing (length (o ∷ os)) (c ∷ ts)
close_ends os o ts c close = record {
  ends = or_right _ _ (and_from _ _ (lt-ltb 0 (suc (length os)) (omega arith)) (⊎_elim (λ e. or_left _ _ (eq-eqb c 93 e)) (λ e. or_right _ _ (eq-eqb c 125 e)) close));
  no_comma = ⊎_elim (λ e. subst (λ x. (x == 44) ≡ false) (sym e) refl) (λ e. subst (λ x. (x == 44) ≡ false) (sym e) refl) close;
}

distinct_nil : (F : List (Pair Short)) → IsDistinct (keys F) → IsDistinct (keys (F ++ []))
distinct_nil F d = subst (λ qs. IsDistinct (keys qs)) (sym (append-nil F)) d

with_proper : (b : Begun) (v : Short) → IsProper b → IsProper (record b { values = b.values ++ v ∷ [] })
with_proper b v h = record { distinct = h.distinct; new = h.new }

-- behind the bracket that closes a value
pub closes_some : (p : Group) (os : List Group) → Stands os p → (v : Short) → (ts : List ℕ) × (t : Short) × Closes (p ∷ os) t v ts × IsClosing (length os) ts
closes_some (group.Items vs) [] h v = absurd h
closes_some (group.Items vs) (q ∷ os) h v =
    let more = closes_some q os h.1 (Items ((vs ++ v ∷ []) ++ [])) in
    (93 ∷ more.0, more.1, ([], more.0, MoreItems.last_item refl, more.2), close_ends os q more.0 93 (inl refl))
closes_some (group.Pair b) [] h v =
    let c : Begun = record b { values = b.values ++ v ∷ [] } in (
      [],
      Fields (all_pairs c ++ []),
      no_more_values [] c (Fields (all_pairs c ++ [])) [] ([], [], MorePairs.last_pair, distinct_nil (all_pairs c) (distinct_all c (with_proper b v h)), (refl, refl)),
      record { ends = tt; no_comma = refl },
    )
closes_some (group.Pair b) (q ∷ os) h v =
    let c : Begun = record b { values = b.values ++ v ∷ [] } in
    let more = closes_some q os h.1 (Fields (all_pairs c ++ [])) in (
      125 ∷ more.0,
      more.1,
      no_more_values (q ∷ os) c more.1 (125 ∷ more.0) ([], 125 ∷ more.0, MorePairs.last_pair, distinct_nil (all_pairs c) (distinct_all c (with_proper b v h.0)), (more.0, refl, more.2)),
      close_ends os q more.0 125 (inr refl),
    )

pairs_some : (os : List Group) (F : List (Pair Short)) → AreProper os → IsDistinct (keys F) → SomeOf os (λ t ts. PairsGo os (Closes os t) t F ts)
pairs_some [] F h d = ([], Fields (F ++ []), ([], [], MorePairs.last_pair, distinct_nil F d, (refl, refl)), record { ends = tt; no_comma = refl })
pairs_some (p ∷ os) F h d =
    let more = closes_some p os h (Fields (F ++ [])) in
    (125 ∷ more.0, more.1, ([], 125 ∷ more.0, MorePairs.last_pair, distinct_nil F d, (more.0, refl, more.2)), close_ends os p more.0 125 (inr refl))

pub group_some : (os : List Group) (o : Group) → Stands os o → SomeOf os (λ t ts. Behind os o t ts)
group_some [] (group.Items vs) h = absurd h
group_some (p ∷ os) (group.Items vs) h =
    let more = closes_some p os h.1 (Items (vs ++ [])) in
    (93 ∷ more.0, more.1, ([], more.0, MoreItems.last_item refl, more.2), close_ends os p more.0 93 (inl refl))
group_some os (group.Pair b) h =
    let some = pairs_some os (all_pairs b) (around os (group.Pair b) h) (distinct_all b (proper_of os b h)) in
    (some.0, some.1, no_more_values os b some.1 some.0 some.2, some.3)

abbrev pub Ending : List Group → Place → Type 0
Ending os p = (ts : List ℕ) × (t : Short) × Goes os p t ts

bare_some : (os : List Group) (o : Group) (w : List ℕ) → Stands os o → SomeOf os (λ t ts. BareGoes os o w t ts)
bare_some os o w h =
    let some = group_some os (with_value o (Word (w ++ []))) (stands_with os o (Word (w ++ [])) h) in
    (some.0, some.1, ([], some.0, Bare.bare_end some.3.ends, some.2), some.3)

-- a mark that any value may have
mark_plain : (n : ℕ) → ends_bare n 33 ≡ false
mark_plain n = ends_not n 33 (eqb-false 33 44 refl) (eqb-false 33 93 refl) (eqb-false 33 125 refl)

mark_goes : (os : List Group) (o : Group) (w : List ℕ) → Stands os o → (ts : List ℕ) × (t : Short) × BareGoes os o w t (33 ∷ ts)
mark_goes os o w h =
    let some = group_some os (with_value o (Word (w ++ 33 ∷ []))) (stands_with os o (Word (w ++ 33 ∷ [])) h) in
    (some.0, some.1, (33 ∷ [], some.0, Bare.bare_char refl refl (mark_plain (length os)) (Bare.bare_end some.3.ends), some.2))

mark_value : (os : List Group) (o : Group) → Stands os o → (ts : List ℕ) × (t : Short) × ValueGoes os o t (33 ∷ ts)
mark_value os o h =
    let some = mark_goes os o [] h in
    (some.0, some.1, (Word some.2.0, some.2.1, Value.bare (begins_bare (length os) 33 some.0 refl refl refl (mark_plain (length os))) some.2.2, some.2.3))

backslash_some : (os : List Group) (o : Group) (w : List ℕ) → Stands os o → Ending os (place.Bare o w run.Backslash)
backslash_some os o w h =
    let some = group_some os (with_value o (Word (w ++ 92 ∷ []))) (stands_with os o (Word (w ++ 92 ∷ [])) h) in
    (some.0, some.1, (92 ∷ [], some.0, Bare.bare_backslash refl some.3.no_comma (Bare.bare_end some.3.ends), some.2))

no_mark_pair : (ts : List ℕ) → BeginsPair (33 ∷ ts) → ⊥
no_mark_pair ts p = untrue refl (pair_char 33 ts p.0 p.1 p.2 p.3)

next_some : (os : List Group) (o : Group) → Stands os o → Ending os (place.Next o)
next_some os (group.Items vs) h = let some = mark_value os (group.Items vs) h in (33 ∷ some.0, some.1, item_comma vs os some.1 (33 ∷ some.0) some.2)
next_some os (group.Pair b) h = let some = mark_value os (group.Pair b) h in (33 ∷ some.0, some.1, value_comma b os some.1 (33 ∷ some.0) (no_mark_pair some.0) some.2)

quoted_some : (os : List Group) (o : Group) (q : ℕ) (w : List ℕ) (e : Bool) → Stands os o → Ending os (place.Quoted o q w e)
quoted_some os o q w false h =
    let some = group_some os (with_value o (Word (w ++ []))) (stands_with os o (Word (w ++ [])) h) in
    (q ∷ some.0, some.1, ([], some.0, Quoted.quote_end refl, some.2))
quoted_some os o q w true h =
    let some = group_some os (with_value o (Word (w ++ q ∷ []))) (stands_with os o (Word (w ++ q ∷ [])) h) in
    (q ∷ q ∷ some.0, some.1, (q ∷ [], some.0, Quoted.quote_escape refl (or_left _ _ (eq-eqb q q refl)) (Quoted.quote_end refl), some.2))

first_some : (os : List Group) (o : Group) → Stands os o → Ending os (place.First o)
first_some [] (group.Items vs) h = absurd h
first_some (p ∷ os) (group.Items vs) h =
    let more = closes_some p os h.1 (Items (vs ++ [])) in (93 ∷ more.0, more.1, ([], more.0, Inside.no_item refl, more.2))
first_some os (group.Pair b) h =
    let some = pairs_some os (all_pairs b) (around os (group.Pair b) h) (distinct_all b (proper_of os b h)) in
    (some.0, some.1, ([], some.0, Values.no_value, subst (λ F. PairsGo os (Closes os some.1) some.1 F some.0) (sym (values_none b)) some.2))

-- A key that is longer than all others is new.

abbrev pub sizes : List (Pair Short) → ℕ
sizes [] = 0
sizes (p ∷ ps) = length p.key + sizes ps

abbrev pub letters : ℕ → List ℕ
letters zero = []
letters (suc n) = 97 ∷ letters n

letters_length : (n : ℕ) → length (letters n) ≡ n
letters_length zero = refl
letters_length (suc n) = ap suc (letters_length n)

letters_all : (n : ℕ) → list_all is_key_char (letters n) ≡ true
letters_all zero = refl
letters_all (suc n) = letters_all n

long_new : (ps : List (Pair Short)) (k : List ℕ) → sizes ps < length k → IsNew k (keys ps)
long_new [] k less = tt
long_new (p ∷ ps) k less = ((λ e. let l : length k ≡ length p.key = ap length e in absurd (omega (arith, l, less))), long_new ps k (omega (arith, less)))

all_of : (k j : List ℕ) → list_all is_key_char k ≡ true → list_all is_key_char j ≡ true → list_all is_key_char (k ++ j) ≡ true
all_of [] j all more = more
all_of (c ∷ k) j all more = let parts = and_parts _ _ all in ap (λ b. b && list_all is_key_char (k ++ j)) parts.0 ∙ all_of k j parts.1 more

key_of : (k : List ℕ) (c : ℕ) (cs : List ℕ) → list_all is_key_char (k ++ c ∷ cs) ≡ true → IsKey (k ++ c ∷ cs)
key_of [] c cs all = all
key_of (d ∷ k) c cs all = all

key_some : (os : List Group) (ps : List (Pair Short)) (k : List ℕ) (skips : Bool) → IsValid os (place.Key ps k skips) → Ending os (place.Key ps k skips)
key_some os ps k skips h =
    let more = letters (suc (sizes ps)) in
    let is_key : IsKey (k ++ more) = key_of k 97 (letters (sizes ps)) (all_of k more h.2 (letters_all (suc (sizes ps)))) in
    let long : sizes ps < length (k ++ more) = omega (arith, length-append k more, letters_length (suc (sizes ps))) in
    let some = pairs_some os (ps ++ pair_of (k ++ more) [] ∷ []) h.0 (IsDistinct-push ps (pair_of (k ++ more) []) h.1 (long_new ps (k ++ more) long)) in
    let all : spaced skips (k ++ (more ++ 61 ∷ some.0)) ≡ (k ++ more) ++ 61 ∷ some.0 =
    ap (spaced skips) (sym (append_assoc k more (61 ∷ some.0))) ∙ spaced_key skips (k ++ more) (61 ∷ some.0) is_key in
    (more ++ 61 ∷ some.0, some.1, subst (λ x. PairGoes os ps some.1 x) (sym all) (pair_of (k ++ more) [], some.0, PairAt.pair is_key refl Values.no_value, some.2))

run_some : (os : List Group) (o : Group) (w : List ℕ) → IsValid os (place.Bare o w run.Key) → Ending os (place.Bare o w run.Key)
run_some os (group.Items vs) w h = absurd h.1
run_some os (group.Pair b) w h =
    let some = mark_goes os (group.Pair b) w h.0 in (33 ∷ some.0, some.1, (run_value os b w 33 h.1.1 refl refl some.1 some.0).0 some.2)

pub completes : (os : List Group) (p : Place) → IsValid os p → Ending os p
completes os (place.Key ps k skips) h = key_some os ps k skips h
completes os (place.First o) h = first_some os o h.0
completes os (place.Next o) h = next_some os o h.0
completes os (place.Bare o w run.Plain) h = let some = bare_some os o w h.0 in (some.0, some.1, some.2)
completes os (place.Bare o w run.Backslash) h = backslash_some os o w h.0
completes os (place.Bare o w run.Key) h = run_some os o w h
completes os (place.Quoted o q w e) h = quoted_some os o q w e h.0
completes os (place.Behind o) h = let some = group_some os o h.0 in (some.0, some.1, some.2)
