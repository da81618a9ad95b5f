-- Where a text ends, its tree is there, or nothing ends it.
use Rattle.std.proofs.Common.{◌≡◌, ℕ, Bool, true, false, List, [], ◌∷◌, ◌++◌, length, None, Some, refl, sym, ap, subst, ◌∙◌, append-nil}
use Rattle.std.specs.Prelude.{◌↔◌}
use Rattle.std.proofs.lemmas.Bool.{eqb-false, and_parts}
use Rattle.std.specs.List.{list_all}
use Rattle.texts.specs.declared.pairs.Pair.{Pair}
use Rattle.texts.specs.Keys.{keys, IsDistinct}
use Rattle.shorthand.specs.declared.begun.Begun.{Begun}
use Rattle.shorthand.specs.declared.begun.Group.{Group}
use Rattle.shorthand.specs.declared.begun.Group.TheVariants as group
use Rattle.shorthand.specs.declared.places.Place.{Place}
use Rattle.shorthand.specs.declared.places.Place.TheVariants as place
use Rattle.shorthand.specs.declared.places.Run.TheVariants as run
use Rattle.shorthand.specs.declared.short.Short.{Short}
use Rattle.shorthand.specs.declared.short.Short.TheVariants.{Word, Fields}
use Rattle.shorthand.specs.Grammar.{without_spaces, is_key_char, pair_of, IsKey, BeginsPair, BeginsBare, EndsBare, Bare, Quoted, Value, Inside, MoreItems, MorePairs, PairAt, Values, MoreValues}
use Rattle.shorthand.specs.Reading.{with_value, finished_with, finished_at}
use Rattle.shorthand.proofs.Characters.{head_is, tail_is, not_nil, told_apart, key_all, key_spaces}
use Rattle.shorthand.proofs.Goes.{Ends, PairsGo, Closes, Behind, ValueGoes, BareGoes, FirstGoes, Goes, spaced}
use Rattle.shorthand.proofs.GroupSteps.{all_pairs, IsProper, distinct_all, pair_added, values_none, no_more_values}
use Rattle.shorthand.proofs.StartSteps.{ends_backslash, word_nil}
use Rattle.shorthand.proofs.CommaSteps.{value_comma, comma_value, comma_item, run_goes, goes_run, spaced_key}
use Rattle.shorthand.proofs.Kept.{Stands, IsValid, proper_of, stands_with, is_no_backslash}

nothing : {c : ℕ} {ts all : List ℕ} → all ≡ c ∷ ts → all ≡ [] → ⊥
nothing e is = not_nil (sym e ∙ is)

no_value : {n : ℕ} {all rest : List ℕ} {v : Short} → Value n all v rest → all ≡ [] → ⊥
no_value (Value.quoted e quote b) is = nothing e is
no_value (Value.brackets e less i) is = nothing e is
no_value (Value.braces e less i close) is = nothing e is
no_value {n = n} (Value.bare begins b) is = subst (BeginsBare n) is begins

no_items : {n : ℕ} {all rest : List ℕ} {vs : List Short} → MoreItems n all vs rest → all ≡ [] → ⊥
no_items (MoreItems.last_item e) is = nothing e is
no_items (MoreItems.more_items e v m) is = nothing e is

no_inside : {n : ℕ} {all rest : List ℕ} {vs : List Short} → Inside n all vs rest → all ≡ [] → ⊥
no_inside (Inside.no_item e) is = nothing e is
no_inside (Inside.items v m) is = no_value v is

-- characters of a key alone are no pair
no_pair : (k j us : List ℕ) → list_all is_key_char k ≡ true → k ≡ j ++ 61 ∷ us → ⊥
no_pair [] [] us all e = not_nil (sym e)
no_pair [] (d ∷ j) us all e = not_nil (sym e)
no_pair (c ∷ k) [] us all e = told_apart is_key_char c 61 (and_parts _ _ all).0 refl (head_is e)
no_pair (c ∷ k) (d ∷ j) us all e = no_pair k j us (and_parts _ _ all).1 (tail_is e)

no_pair_at : {n : ℕ} {all rest : List ℕ} {p : Pair Short} (k : List ℕ) → PairAt n all p rest → all ≡ k → list_all is_key_char k ≡ true → ⊥
no_pair_at k (PairAt.pair {us = us} {k = j} key e v) is all = no_pair k j us all (sym is ∙ e)

spaced_nil : (skips : Bool) → spaced skips [] ≡ []
spaced_nil true = refl
spaced_nil false = refl

key_alone : (skips : Bool) (k : List ℕ) → list_all is_key_char k ≡ true → spaced skips (k ++ []) ≡ k
key_alone skips [] all = spaced_nil skips
key_alone skips (c ∷ k) all = spaced_key skips (c ∷ k) [] all ∙ append-nil (c ∷ k)

-- Behind the last pair.

ends_nil : (F : List (Pair Short)) (t : Short) → PairsGo [] (Closes [] t) t F [] → t ≡ Fields F
ends_nil F t h = at_end F t h.2 refl h.4
  where
    at_end : (F : List (Pair Short)) (t : Short) {all rest : List ℕ} {qs : List (Pair Short)} → MorePairs 0 all qs rest → all ≡ [] → Ends [] (Closes [] t) t (F ++ qs) rest → t ≡ Fields F
    at_end F t MorePairs.last_pair is e = e.1 ∙ ap Fields (append-nil F)
    at_end F t (MorePairs.more_pairs e pa m) is h = absurd (nothing e is)

nil_ends : (F : List (Pair Short)) (t : Short) → IsDistinct (keys F) → t ≡ Fields F → PairsGo [] (Closes [] t) t F []
nil_ends F t d e = ([], [], MorePairs.last_pair, subst (λ qs. IsDistinct (keys qs)) (sym (append-nil F)) d, (refl, e ∙ ap Fields (sym (append-nil F))))

open_ends : (p : Group) (os : List Group) (F : List (Pair Short)) (t : Short) → PairsGo (p ∷ os) (Closes (p ∷ os) t) t F [] → ⊥
open_ends p os F t h = at_end p os F t h.2 refl h.4
  where
    at_end : (p : Group) (os : List Group) (F : List (Pair Short)) (t : Short) {all rest : List ℕ} {qs : List (Pair Short)} → MorePairs (length (p ∷ os)) all qs rest → all ≡ []
        → Ends (p ∷ os) (Closes (p ∷ os) t) t (F ++ qs) rest → ⊥
    at_end p os F t MorePairs.last_pair is e = nothing e.1 is
    at_end p os F t (MorePairs.more_pairs e pa m) is h = nothing e is

-- what ends a text behind the pair that was begun
abbrev pub EndsWith : List Group → Begun → Short → Type 0
EndsWith os b t = finished_with os (group.Pair b) ≡ Some t

some_is : {a b : Short} → Some a ≡ Some b → a ≡ b
some_is e = cc

pair_ends : (os : List Group) (b : Begun) (t : Short) → IsProper b → PairsGo os (Closes os t) t (all_pairs b) [] ↔ (finished_with os (group.Pair b) ≡ Some t)
pair_ends [] b t proper = (
  (λ h. ap (λ F. Some (Fields F)) (pair_added b proper) ∙ ap Some (sym (ends_nil (all_pairs b) t h))),
  (λ e. nil_ends (all_pairs b) t (distinct_all b proper) (sym (some_is e) ∙ ap Fields (pair_added b proper))),
)
pair_ends (p ∷ os) b t proper = ((λ h. absurd (open_ends p os (all_pairs b) t h)), (λ e. absurd (none_some e)))
  where
    none_some : {a : Short} → None ≡ Some a → ⊥
    none_some e = cc

none_is : {a : Short} → None ≡ Some a → ⊥
none_is e = cc

values_end : (os : List Group) (b : Begun) (t : Short) {all us : List ℕ} {more : List Short} → MoreValues (length os) all more us → all ≡ []
    → PairsGo os (Closes os t) t (b.fields ++ pair_of b.key (b.values ++ more) ∷ []) us → PairsGo os (Closes os t) t (all_pairs b) []
values_end os b t {all = all} MoreValues.last_value is h =
    subst (λ r. PairsGo os (Closes os t) t (all_pairs b) r) is (subst (λ F. PairsGo os (Closes os t) t F all) (values_none b) h)
values_end os b t (MoreValues.more_values e apart v m) is h = absurd (nothing e is)

first_end : (os : List Group) (b : Begun) (t : Short) {all us : List ℕ} {more : List Short} → Values (length os) all more us → all ≡ []
    → PairsGo os (Closes os t) t (b.fields ++ pair_of b.key (b.values ++ more) ∷ []) us → PairsGo os (Closes os t) t (all_pairs b) []
first_end os b t {all = all} Values.no_value is h =
    subst (λ r. PairsGo os (Closes os t) t (all_pairs b) r) is (subst (λ F. PairsGo os (Closes os t) t F all) (values_none b) h)
first_end os b t (Values.values v m) is h = absurd (no_value v is)

no_list : (os : List Group) (vs : List Short) (t : Short) → finished_with os (group.Items vs) ≡ Some t → ⊥
no_list [] vs t e = none_is e
no_list (p ∷ os) vs t e = none_is e

behind_end : (os : List Group) (o : Group) (t : Short) → Stands os o → Behind os o t [] ↔ (finished_with os o ≡ Some t)
behind_end os (group.Items vs) t h = ((λ m. absurd (no_items m.2 refl)), (λ e. absurd (no_list os vs t e)))
behind_end os (group.Pair b) t h =
    let end = pair_ends os b t (proper_of os b h) in
    ((λ m. end.0 (values_end os b t m.2 refl m.3)), (λ e. no_more_values os b t [] (end.1 e)))

first_ends : (os : List Group) (o : Group) (t : Short) → Stands os o → FirstGoes os o t [] ↔ (finished_with os o ≡ Some t)
first_ends os (group.Items vs) t h = ((λ m. absurd (no_inside m.2 refl)), (λ e. absurd (no_list os vs t e)))
first_ends os (group.Pair b) t h =
    let end = pair_ends os b t (proper_of os b h) in (
      (λ m. end.0 (first_end os b t m.2 refl m.3)),
      (λ e. ([], [], Values.no_value, subst (λ F. PairsGo os (Closes os t) t F []) (sym (values_none b)) (end.1 e))),
    )

-- Values without quotes.

bare_end : (os : List Group) (o : Group) (w : List ℕ) (t : Short) {all v rest : List ℕ} → Bare (length os) all v rest → all ≡ [] → Behind os (with_value o (Word (w ++ v))) t rest → Behind os (with_value o (Word w)) t []
bare_end os o w t {all = all} (Bare.bare_end ends) is h = subst (λ r. Behind os (with_value o (Word w)) t r) is ((word_nil os o w t all).0 h)
bare_end os o w t (Bare.bare_comma e b) is h = absurd (nothing e is)
bare_end os o w t (Bare.bare_backslash e other b) is h = absurd (nothing e is)
bare_end os o w t (Bare.bare_char e plain ends b) is h = absurd (nothing e is)

pub bare_ends : (os : List Group) (o : Group) (w : List ℕ) (t : Short) → BareGoes os o w t [] ↔ Behind os (with_value o (Word w)) t []
bare_ends os o w t = ((λ h. bare_end os o w t h.2 refl h.3), (λ h. ([], [], Bare.bare_end tt, (word_nil os o w t []).1 h)))

backslash_end : (os : List Group) (o : Group) (w : List ℕ) (t : Short) {all v rest : List ℕ} → Bare (length os) all v rest → all ≡ 92 ∷ [] → Behind os (with_value o (Word (w ++ v))) t rest
    → Behind os (with_value o (Word (w ++ 92 ∷ []))) t []
backslash_end os o w t (Bare.bare_end ends) is h = absurd (ends_backslash (length os) 92 refl (subst (EndsBare (length os)) is ends))
backslash_end os o w t (Bare.bare_comma e b) is h = absurd (not_nil (tail_is (sym e ∙ is)))
backslash_end os o w t (Bare.bare_backslash {us = us} {w = v} {rest = rest} e other b) is h = at_end os o w t b (tail_is (sym e ∙ is)) h
  where
    at_end : (os : List Group) (o : Group) (w : List ℕ) (t : Short) {all v rest : List ℕ} → Bare (length os) all v rest → all ≡ [] → Behind os (with_value o (Word (w ++ 92 ∷ v))) t rest → Behind os (with_value o (Word (w ++ 92 ∷ []))) t []
    at_end os o w t {all = all} (Bare.bare_end ends) is h = subst (λ r. Behind os (with_value o (Word (w ++ 92 ∷ []))) t r) is h
    at_end os o w t (Bare.bare_comma e b) is h = absurd (nothing e is)
    at_end os o w t (Bare.bare_backslash e other b) is h = absurd (nothing e is)
    at_end os o w t (Bare.bare_char e plain ends b) is h = absurd (nothing e is)
backslash_end os o w t (Bare.bare_char e plain ends b) is h = absurd (eqb-false _ 92 plain (head_is (sym e ∙ is)))

backslash_ends : (os : List Group) (o : Group) (w : List ℕ) (t : Short) → BareGoes os o w t (92 ∷ []) ↔ Behind os (with_value o (Word (w ++ 92 ∷ []))) t []
backslash_ends os o w t = (
  (λ h. backslash_end os o w t h.2 refl h.3),
  (λ h. (92 ∷ [], [], Bare.bare_backslash refl refl (Bare.bare_end tt), h)),
)

run_ends : (os : List Group) (b : Begun) (w : List ℕ) (t : Short) → IsKey w → Behind os (group.Pair b) t (44 ∷ w ++ []) ↔ BareGoes os (group.Pair b) w t []
run_ends os b w t key =
    let all = key_spaces w [] key in
    let none : BeginsPair (without_spaces (w ++ [])) → ⊥ = subst (λ x. BeginsPair x → ⊥) (sym (all ∙ append-nil w)) (λ p. no_pair w p.0 p.1 (key_all w key) p.3) in (
      (λ h. run_goes os b w t [] key (subst (λ x. ValueGoes os (group.Pair b) t x) all (comma_value b os t (w ++ []) none h.2 refl h.3))),
      (λ h. value_comma b os t (w ++ []) none (subst (λ x. ValueGoes os (group.Pair b) t x) (sym all) (goes_run os b w t [] key h))),
    )

-- Values in quotes.

no_quote : {q : ℕ} {all v rest : List ℕ} → Quoted q all v rest → all ≡ [] → ⊥
no_quote (Quoted.quote_end e) is = nothing e is
no_quote (Quoted.quote_escape e escape b) is = nothing e is
no_quote (Quoted.quote_backslash e other b) is = nothing e is
no_quote (Quoted.quote_char e other plain b) is = nothing e is

no_escape : {q : ℕ} {all v rest : List ℕ} → Quoted q all v rest → all ≡ 92 ∷ [] → (q ≡ 92 → ⊥) → ⊥
no_escape (Quoted.quote_end e) is quote = quote (head_is (sym e ∙ is))
no_escape (Quoted.quote_escape e escape b) is quote = not_nil (tail_is (sym e ∙ is))
no_escape (Quoted.quote_backslash e other b) is quote = not_nil (tail_is (sym e ∙ is))
no_escape (Quoted.quote_char e other plain b) is quote = eqb-false _ 92 plain (head_is (sym e ∙ is))

-- Behind a comma.

comma_ends : (os : List Group) (o : Group) (t : Short) → Behind os o t (44 ∷ []) → ⊥
comma_ends os (group.Items vs) t h = no_value (comma_item vs os t [] h.2 refl h.3).2 refl
comma_ends os (group.Pair b) t h = no_value (comma_value b os t [] no_pair_nil h.2 refl h.3).2 refl
  where
    no_pair_nil : BeginsPair [] → ⊥
    no_pair_nil p = no_pair [] p.0 p.1 refl p.3

pub ends_at : (os : List Group) (p : Place) → IsValid os p → (t : Short) → Goes os p t [] ↔ (finished_at os p ≡ Some t)
ends_at os (place.Key ps k skips) h t = ((λ g. absurd (no_pair_at k g.2 (key_alone skips k h.2) h.2)), (λ e. absurd (none_is e)))
ends_at os (place.First o) h t = first_ends os o t h.0
ends_at os (place.Next o) h t = ((λ g. absurd (comma_ends os o t g)), (λ e. absurd (none_is e)))
ends_at os (place.Bare o w run.Plain) h t =
    let end = behind_end os (with_value o (Word w)) t (stands_with os o (Word w) h.0) in
    let bare = bare_ends os o w t in ((λ g. end.0 (bare.0 g)), (λ e. bare.1 (end.1 e)))
ends_at os (place.Bare o w run.Backslash) h t =
    let end = behind_end os (with_value o (Word (w ++ 92 ∷ []))) t (stands_with os o (Word (w ++ 92 ∷ [])) h.0) in
    let bare = backslash_ends os o w t in ((λ g. end.0 (bare.0 g)), (λ e. bare.1 (end.1 e)))
ends_at os (place.Bare (group.Items vs) w run.Key) h t = absurd h.1
ends_at os (place.Bare (group.Pair b) w run.Key) h t =
    let end = behind_end os (with_value (group.Pair b) (Word w)) t (stands_with os (group.Pair b) (Word w) h.0) in
    let bare = bare_ends os (group.Pair b) w t in
    let run = run_ends os b w t h.1.1 in ((λ g. end.0 (bare.0 (run.0 g))), (λ e. run.1 (bare.1 (end.1 e))))
ends_at os (place.Quoted o q w false) h t = ((λ g. absurd (no_quote g.2 refl)), (λ e. absurd (none_is e)))
ends_at os (place.Quoted o q w true) h t = ((λ g. absurd (no_escape g.2 refl (is_no_backslash q h.1))), (λ e. absurd (none_is e)))
ends_at os (place.Behind o) h t = behind_end os o t h.0
