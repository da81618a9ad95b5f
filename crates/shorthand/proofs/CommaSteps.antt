-- What stands behind a comma, and keys.
use Rattle.std.proofs.Common.{◌≡◌, ℕ, ◌==◌, Bool, true, false, ◌&&◌, if◌then◌else◌, List, [], ◌∷◌, ◌++◌, length, refl, sym, ap, subst, ◌∙◌, append_assoc}
use Rattle.std.specs.Prelude.{◌↔◌, Err, encode_utf8_all}
use Rattle.std.proofs.lemmas.Bool.{eqb-true, eqb-false, ne_eqb, and_parts}
use Rattle.std.specs.List.{list_all}
use Rattle.texts.specs.declared.pairs.Pair.{Pair}
use Rattle.texts.specs.Keys.{keys, IsDistinct}
use Rattle.shorthand.specs.declared.begun.Begun.{Begun}
use Rattle.shorthand.specs.declared.begun.Group.{Group}
use Rattle.shorthand.specs.declared.begun.Group.TheVariants as group
use Rattle.shorthand.specs.declared.fault.Stop.TheVariants.{Refused, RepeatedKey}
use Rattle.shorthand.specs.declared.places.Place.TheVariants as place
use Rattle.shorthand.specs.declared.places.Run.TheVariants as run
use Rattle.shorthand.specs.declared.short.Short.{Short}
use Rattle.shorthand.specs.declared.short.Short.TheVariants.{Word, Items}
use Rattle.shorthand.specs.Grammar.{without_spaces, is_key_char, is_quote, pair_of, IsKey, BeginsPair, EndsBare, Bare, Value, MoreItems, PairAt, Values, MoreValues}
use Rattle.shorthand.specs.Reading.{with_pair, with_value, has_key, at, begun, key_ends, in_key, start, next, next_value, next_in_pair, bare, in_run}
use Rattle.shorthand.proofs.Characters.{either, head_is, tail_is, untrue, key_char_is_none, key_ends_not, key_no_quote, space_skipped, no_space, front_is, key_all, key_spaces, pair_front, pair_char, begins_bare}
use Rattle.shorthand.proofs.Goes.{PairsGo, Closes, Behind, ValueGoes, PairGoes, BareGoes, FirstGoes, StepOf, spaced}
use Rattle.shorthand.proofs.GroupSteps.{same_step, no_change, comma_pairs, all_pairs, IsProper, pair_added, values_none}
use Rattle.shorthand.proofs.Pairs.{found_again}
use Rattle.shorthand.proofs.ValueSteps.{more_of, start_step}

-- Behind a comma only what is without its spaces counts.

comma_items : (vs : List Short) (os : List Group) (t : Short) (us ws : List ℕ) → without_spaces us ≡ without_spaces ws → {all rest : List ℕ} {more : List Short} → MoreItems (length os) all more rest → all ≡ 44 ∷ us
    → Closes os t (Items (vs ++ more)) rest → Behind os (group.Items vs) t (44 ∷ ws)
comma_items vs os t us ws same (MoreItems.last_item e) is h = absurd (eqb-false 93 44 refl (head_is (sym e ∙ is)))
comma_items vs os t us ws same (MoreItems.more_items {us = xs} {ws = ys} {rest = rest} {v = v} {vs = more} e value m) is h =
    (v ∷ more, rest, MoreItems.more_items refl (subst (λ x. Value (length os) x v ys) (ap without_spaces (tail_is (sym e ∙ is)) ∙ same) value) m, h)

comma_values : (b : Begun) (os : List Group) (t : Short) (us ws : List ℕ) → without_spaces us ≡ without_spaces ws → {all rest : List ℕ} {more : List Short} → MoreValues (length os) all more rest → all ≡ 44 ∷ us
    → PairsGo os (Closes os t) t (b.fields ++ pair_of b.key (b.values ++ more) ∷ []) rest → Behind os (group.Pair b) t (44 ∷ ws)
comma_values b os t us ws same MoreValues.last_value is h =
    let F = b.fields ++ pair_of b.key (b.values ++ []) ∷ [] in
    let go : PairsGo os (Closes os t) t F (44 ∷ us) = subst (λ r. PairsGo os (Closes os t) t F r) is h in
    ([], 44 ∷ ws, MoreValues.last_value, (comma_pairs os t F ws).0 (subst (λ x. PairGoes os F t x) same ((comma_pairs os t F us).1 go)))
comma_values b os t us ws same (MoreValues.more_values {us = xs} {ws = ys} {rest = rest} {v = v} {vs = more} e apart value m) is h =
    let all = ap without_spaces (tail_is (sym e ∙ is)) ∙ same in
    (v ∷ more, rest, MoreValues.more_values refl (subst (λ x. BeginsPair x → ⊥) all apart) (subst (λ x. Value (length os) x v ys) all value) m, h)

pub comma_same : (o : Group) (os : List Group) (t : Short) (us ws : List ℕ) → without_spaces us ≡ without_spaces ws → Behind os o t (44 ∷ us) → Behind os o t (44 ∷ ws)
comma_same (group.Items vs) os t us ws same h = comma_items vs os t us ws same h.2 refl h.3
comma_same (group.Pair b) os t us ws same h = comma_values b os t us ws same h.2 refl h.3

-- the value that stands behind a comma in brackets
pub comma_item : (vs : List Short) (os : List Group) (t : Short) (us : List ℕ) {all rest : List ℕ} {more : List Short} → MoreItems (length os) all more rest → all ≡ 44 ∷ us
    → Closes os t (Items (vs ++ more)) rest → ValueGoes os (group.Items vs) t (without_spaces us)
comma_item vs os t us (MoreItems.last_item e) is h = absurd (eqb-false 93 44 refl (head_is (sym e ∙ is)))
comma_item vs os t us (MoreItems.more_items {ws = ys} {rest = rest} {v = v} {vs = more} e value m) is h =
    (v, ys, subst (λ x. Value (length os) (without_spaces x) v ys) (tail_is (sym e ∙ is)) value, (more, rest, m, subst (λ ws. Closes os t (Items ws) rest) (sym (append_assoc vs (v ∷ []) more)) h))

pub item_comma : (vs : List Short) (os : List Group) (t : Short) (us : List ℕ) → ValueGoes os (group.Items vs) t (without_spaces us) → Behind os (group.Items vs) t (44 ∷ us)
item_comma vs os t us h =
    let more = h.3 in
    (h.0 ∷ more.0, more.1, MoreItems.more_items refl h.2 more.2, subst (λ ws. Closes os t (Items ws) more.1) (append_assoc vs (h.0 ∷ []) more.0) more.3)

-- the value that stands behind a comma in a text, where no pair begins there
pub comma_value : (b : Begun) (os : List Group) (t : Short) (us : List ℕ) → (BeginsPair (without_spaces us) → ⊥) → {all rest : List ℕ} {more : List Short} → MoreValues (length os) all more rest → all ≡ 44 ∷ us
    → PairsGo os (Closes os t) t (b.fields ++ pair_of b.key (b.values ++ more) ∷ []) rest → ValueGoes os (group.Pair b) t (without_spaces us)
comma_value b os t us none MoreValues.last_value is h =
    let F = b.fields ++ pair_of b.key (b.values ++ []) ∷ [] in
    absurd (no_pair os F t (without_spaces us) none ((comma_pairs os t F us).1 (subst (λ r. PairsGo os (Closes os t) t F r) is h)))
  where
    at_pair : {n : ℕ} {ts us : List ℕ} {p : Pair Short} → PairAt n ts p us → BeginsPair ts
    at_pair (PairAt.pair {us = us} {k = k} key e v) = (k, us, key, e)

    no_pair : (os : List Group) (F : List (Pair Short)) (t : Short) (ts : List ℕ) → (BeginsPair ts → ⊥) → PairGoes os F t ts → ⊥
    no_pair os F t ts none h = none (at_pair h.2)
comma_value b os t us none (MoreValues.more_values {ws = ys} {rest = rest} {v = v} {vs = more} e apart value m) is h =
    (v, ys, subst (λ x. Value (length os) (without_spaces x) v ys) (tail_is (sym e ∙ is)) value, (more, rest, m, subst (λ F. PairsGo os (Closes os t) t F rest) (sym (more_of b v more)) h))

pub value_comma : (b : Begun) (os : List Group) (t : Short) (us : List ℕ) → (BeginsPair (without_spaces us) → ⊥) → ValueGoes os (group.Pair b) t (without_spaces us) → Behind os (group.Pair b) t (44 ∷ us)
value_comma b os t us none h =
    let more = h.3 in
    (h.0 ∷ more.0, more.1, MoreValues.more_values refl none h.2 more.2, subst (λ F. PairsGo os (Closes os t) t F more.1) (more_of b h.0 more.0) more.3)

next_item_step : (os : List Group) (vs : List Short) (c : ℕ) → (c == 32) ≡ false → StepOf (λ t ts. Behind os (group.Items vs) t (44 ∷ c ∷ ts)) (start os (group.Items vs) c)
next_item_step os vs c fails =
    same_step (λ t ts. ValueGoes os (group.Items vs) t (c ∷ ts)) (λ t ts. Behind os (group.Items vs) t (44 ∷ c ∷ ts)) (start os (group.Items vs) c)
    (λ t ts. (
      (λ h. item_comma vs os t (c ∷ ts) (subst (λ x. ValueGoes os (group.Items vs) t x) (sym (no_space c ts fails)) h)),
      (λ h. subst (λ x. ValueGoes os (group.Items vs) t x) (no_space c ts fails) (comma_item vs os t (c ∷ ts) h.2 refl h.3)),
    )) (start_step os (group.Items vs) c)

next_in_pair_step : (os : List Group) (b : Begun) (c : ℕ) → (c == 32) ≡ false → StepOf (λ t ts. Behind os (group.Pair b) t (44 ∷ c ∷ ts)) (next_in_pair os b c)
next_in_pair_step os b c fails =
    let G : Short → List ℕ → Type 0 = λ t ts. Behind os (group.Pair b) t (44 ∷ c ∷ ts) in
    either (StepOf G) (is_key_char c) (at os (place.Bare (group.Pair b) (c ∷ []) run.Key)) (start os (group.Pair b) c)
    (λ key. no_change G)
    (λ other.
    let none : (ts : List ℕ) → BeginsPair (without_spaces (c ∷ ts)) → ⊥ = λ ts. subst (λ x. BeginsPair x → ⊥) (sym (no_space c ts fails)) (λ p. untrue other (pair_char c ts p.0 p.1 p.2 p.3)) in
    same_step (λ t ts. ValueGoes os (group.Pair b) t (c ∷ ts)) G (start os (group.Pair b) c)
    (λ t ts. (
      (λ h. value_comma b os t (c ∷ ts) (none ts) (subst (λ x. ValueGoes os (group.Pair b) t x) (sym (no_space c ts fails)) h)),
      (λ h. subst (λ x. ValueGoes os (group.Pair b) t x) (no_space c ts fails) (comma_value b os t (c ∷ ts) (none ts) h.2 refl h.3)),
    )) (start_step os (group.Pair b) c))

pub next_step : (o : Group) (os : List Group) (c : ℕ) → StepOf (λ t ts. Behind os o t (44 ∷ c ∷ ts)) (next os o c)
next_step o os c =
    let G : Short → List ℕ → Type 0 = λ t ts. Behind os o t (44 ∷ c ∷ ts) in
    either (StepOf G) (c == 32) (at os (place.Next o)) _
    (λ e t ts. (
      (λ h. comma_same o os t ts (c ∷ ts) (sym (space_skipped c ts e)) h),
      (λ h. comma_same o os t (c ∷ ts) ts (space_skipped c ts e) h),
    ))
    (λ fails. by_group o os c fails)
  where
    by_group : (o : Group) (os : List Group) (c : ℕ) → (c == 32) ≡ false → StepOf (λ t ts. Behind os o t (44 ∷ c ∷ ts)) (next_value os o c)
    by_group (group.Items vs) os c fails = next_item_step os vs c fails
    by_group (group.Pair b) os c fails = next_in_pair_step os b c fails

-- Keys.

-- the pair whose key and `=` stand in front
pair_is : (os : List Group) (t : Short) (ps : List (Pair Short)) (k ts : List ℕ) {all us : List ℕ} {p : Pair Short} → PairAt (length os) all p us → all ≡ k ++ 61 ∷ ts → IsKey k
    → PairsGo os (Closes os t) t (ps ++ p ∷ []) us → FirstGoes os (group.Pair (record { fields = ps; key = k; values = [] })) t ts
pair_is os t ps k ts (PairAt.pair {us = us} {k = j} {rest = rest} {vs = vs} key e v) is is_key h =
    let same = front_is j k 61 61 us ts (key_all j key) (key_all k is_key) refl refl (sym e ∙ is) in
    (vs, rest, subst (λ x. Values (length os) x vs rest) same.2 v, subst (λ x. PairsGo os (Closes os t) t (ps ++ pair_of x vs ∷ []) rest) same.0 h)

key_is : {n : ℕ} {all us : List ℕ} {p : Pair Short} (k : List ℕ) (c : ℕ) (ts : List ℕ) → PairAt n all p us → all ≡ k ++ c ∷ ts → list_all is_key_char k ≡ true → is_key_char c ≡ false → (p.key ≡ k) × (c ≡ 61)
key_is k c ts (PairAt.pair {us = us} {k = j} key e v) is all fails =
    let same = front_is j k 61 c us ts (key_all j key) all refl fails (sym e ∙ is) in (same.0, sym same.1)

pub begun_step : (os : List Group) (ps : List (Pair Short)) (k : List ℕ) → IsKey k → StepOf (λ t ts. PairGoes os ps t (k ++ 61 ∷ ts)) (begun os ps k)
begun_step os ps k is_key =
    let G : Short → List ℕ → Type 0 = λ t ts. PairGoes os ps t (k ++ 61 ∷ ts) in
    either (StepOf G) (has_key k ps) (Err (RepeatedKey (length (encode_utf8_all k)))) (at os (place.First (group.Pair (record { fields = ps; key = k; values = [] }))))
    (λ found t ts h.
    let key = (key_is k 61 ts h.2 refl (key_all k is_key) refl).0 in
    let more = h.3 in
    found_again ps more.0 h.0 (subst (λ x. has_key x ps ≡ true) (sym key) found) (subst (λ qs. IsDistinct (keys qs)) (append_assoc ps (h.0 ∷ []) more.0) more.3))
    (λ new t ts. (
      (λ h. (pair_of k h.0, h.1, PairAt.pair is_key refl h.2, h.3)),
      (λ h. pair_is os t ps k ts h.2 refl is_key h.3),
    ))

-- no pair begins where another character stands behind a front of a key
no_pair_here : (os : List Group) (ps : List (Pair Short)) (k : List ℕ) (c : ℕ) → list_all is_key_char k ≡ true → is_key_char c ≡ false → (c ≡ 61 → k ≡ []) → (t : Short) (ts : List ℕ) → PairGoes os ps t (k ++ c ∷ ts) → ⊥
no_pair_here os ps k c all fails apart t ts h =
    let same = key_is k c ts h.2 refl all fails in no_key (at_key h.2) (same.0 ∙ apart same.1)
  where
    at_key : {n : ℕ} {all us : List ℕ} {p : Pair Short} → PairAt n all p us → IsKey p.key
    at_key (PairAt.pair key e v) = key

    no_key : {k : List ℕ} → IsKey k → k ≡ [] → ⊥
    no_key {k = k} key e = subst IsKey e key

pub spaced_key : (skips : Bool) (k ts : List ℕ) → IsKey k → spaced skips (k ++ ts) ≡ k ++ ts
spaced_key true k ts key = key_spaces k ts key
spaced_key false k ts key = refl

no_first_space : (skips : Bool) (c : ℕ) (ts : List ℕ) → (skips && (c == 32)) ≡ false → spaced skips (c ∷ ts) ≡ c ∷ ts
no_first_space true c ts fails = no_space c ts fails
no_first_space false c ts fails = refl

spaced_first : (skips : Bool) (c : ℕ) (ts : List ℕ) → (skips && (c == 32)) ≡ true → spaced skips (c ∷ ts) ≡ spaced skips ts
spaced_first true c ts e = space_skipped c ts e
spaced_first false c ts e = absurd (untrue refl e)

key_ends_step : (os : List Group) (ps : List (Pair Short)) (k : List ℕ) (skips : Bool) (c : ℕ) → list_all is_key_char k ≡ true → is_key_char c ≡ false
    → StepOf (λ t ts. PairGoes os ps t (spaced skips (k ++ c ∷ ts))) (key_ends os ps k skips c)
key_ends_step os ps [] skips c all fails =
    let G : Short → List ℕ → Type 0 = λ t ts. PairGoes os ps t (spaced skips (c ∷ ts)) in
    either (StepOf G) (skips && (c == 32)) (at os (place.Key ps [] skips)) (Err Refused)
    (λ e t ts. subst (λ x. PairGoes os ps t (spaced skips ts) ↔ PairGoes os ps t x) (sym (spaced_first skips c ts e)) (no_change (λ t ts. PairGoes os ps t (spaced skips ts)) t ts))
    (λ other t ts h. no_pair_here os ps [] c refl fails (λ e. refl) t ts (subst (λ x. PairGoes os ps t x) (no_first_space skips c ts other) h))
key_ends_step os ps (d ∷ k) skips c all fails =
    let G : Short → List ℕ → Type 0 = λ t ts. PairGoes os ps t (spaced skips (d ∷ k ++ c ∷ ts)) in
    let H : Short → List ℕ → Type 0 = λ t ts. PairGoes os ps t (d ∷ k ++ c ∷ ts) in
    same_step H G (if c == 61 then begun os ps (d ∷ k) else Err Refused)
    (λ t ts. subst (λ x. PairGoes os ps t (d ∷ k ++ c ∷ ts) ↔ PairGoes os ps t x) (sym (spaced_key skips (d ∷ k) (c ∷ ts) all)) (no_change (λ t ts. PairGoes os ps t (d ∷ k ++ c ∷ ts)) t ts))
    (either (StepOf H) (c == 61) (begun os ps (d ∷ k)) (Err Refused)
    (λ e. subst (λ x. StepOf (λ t ts. PairGoes os ps t (d ∷ k ++ x ∷ ts)) (begun os ps (d ∷ k))) (sym (eqb-true c 61 e)) (begun_step os ps (d ∷ k) all))
    (λ other t ts h. no_pair_here os ps (d ∷ k) c all fails (λ e. absurd (eqb-false c 61 other e)) t ts h))

pub key_step : (os : List Group) (ps : List (Pair Short)) (k : List ℕ) (skips : Bool) (c : ℕ) → list_all is_key_char k ≡ true → StepOf (λ t ts. PairGoes os ps t (spaced skips (k ++ c ∷ ts))) (in_key os ps k skips c)
key_step os ps k skips c all =
    let G : Short → List ℕ → Type 0 = λ t ts. PairGoes os ps t (spaced skips (k ++ c ∷ ts)) in
    either (StepOf G) (is_key_char c) (at os (place.Key ps (k ++ c ∷ []) skips)) (key_ends os ps k skips c)
    (λ holds t ts. subst (λ x. PairGoes os ps t (spaced skips x) ↔ PairGoes os ps t (spaced skips (k ++ c ∷ ts))) (sym (append_assoc k (c ∷ []) ts)) (no_change G t ts))
    (λ fails. key_ends_step os ps k skips c all fails)

-- A value that may still be a key.

-- characters of a key belong to a value without quotes
bare_front : (n : ℕ) (w : List ℕ) (ts v rest : List ℕ) → list_all is_key_char w ≡ true → Bare n ts v rest → Bare n (w ++ ts) (w ++ v) rest
bare_front n [] ts v rest all b = b
bare_front n (c ∷ w) ts v rest all b =
    let parts = and_parts _ _ all in
    Bare.bare_char refl (ne_eqb c 92 (key_char_is_none c 92 parts.0 refl)) (key_ends_not n c parts.0) (bare_front n w ts v rest parts.1 b)

abbrev pub BareFrom : ℕ → List ℕ → List ℕ → List ℕ → List ℕ → Type 0
BareFrom n w ts v rest = (x : List ℕ) × (v ≡ w ++ x) × Bare n ts x rest

front_bare_at : (n c : ℕ) (cs : List ℕ) {all v rest : List ℕ} → Bare n all v rest → all ≡ c ∷ cs → is_key_char c ≡ true → (x : List ℕ) × (v ≡ c ∷ x) × Bare n cs x rest
front_bare_at n c cs (Bare.bare_end ends) is key = absurd (untrue (key_ends_not n c key) (subst (EndsBare n) is ends))
front_bare_at n c cs (Bare.bare_comma e b) is key = absurd (key_char_is_none c 92 key refl (sym (head_is (sym e ∙ is))))
front_bare_at n c cs (Bare.bare_backslash e other b) is key = absurd (key_char_is_none c 92 key refl (sym (head_is (sym e ∙ is))))
front_bare_at n c cs (Bare.bare_char {w = w} {rest = rest} e plain ends b) is key =
    (w, ap (λ d. d ∷ w) (head_is (sym e ∙ is)), subst (λ us. Bare n us w rest) (tail_is (sym e ∙ is)) b)

front_bare : (n : ℕ) (w : List ℕ) (ts v rest : List ℕ) → list_all is_key_char w ≡ true → Bare n (w ++ ts) v rest → BareFrom n w ts v rest
front_bare n [] ts v rest all b = (v, refl, b)
front_bare n (c ∷ w) ts v rest all b =
    let parts = and_parts _ _ all in
    let first = front_bare_at n c (w ++ ts) b refl parts.0 in
    let more = front_bare n w ts first.0 rest parts.1 first.2 in
    (more.0, first.1 ∙ ap (λ x. c ∷ x) more.1, more.2)

-- a value that begins with a character of a key has no quotes
value_word : (n c : ℕ) (cs : List ℕ) {all rest : List ℕ} {v : Short} → Value n all v rest → all ≡ c ∷ cs → is_key_char c ≡ true → (w : List ℕ) × (v ≡ Word w) × Bare n (c ∷ cs) w rest
value_word n c cs (Value.quoted e quote b) is key = absurd (untrue (key_no_quote c key) (subst (λ x. is_quote x ≡ true) (head_is (sym e ∙ is)) quote))
value_word n c cs (Value.brackets e less i) is key = absurd (key_char_is_none c 91 key refl (sym (head_is (sym e ∙ is))))
value_word n c cs (Value.braces e less i close) is key = absurd (key_char_is_none c 123 key refl (sym (head_is (sym e ∙ is))))
value_word n c cs (Value.bare {w = w} {rest = rest} begins b) is key = (w, refl, subst (λ us. Bare n us w rest) is b)

pub run_goes : (os : List Group) (b : Begun) (w : List ℕ) (t : Short) (ts : List ℕ) → IsKey w → ValueGoes os (group.Pair b) t (w ++ ts) → BareGoes os (group.Pair b) w t ts
run_goes os b [] t ts key h = absurd key
run_goes os b (c ∷ w) t ts key h =
    let word = value_word (length os) c (w ++ ts) h.2 refl (and_parts _ _ key).0 in
    let from = front_bare (length os) (c ∷ w) ts word.0 h.1 key word.2 in
    (from.0, h.1, from.2, subst (λ v. Behind os (with_value (group.Pair b) v) t h.1) (word.1 ∙ ap Word from.1) h.3)

pub goes_run : (os : List Group) (b : Begun) (w : List ℕ) (t : Short) (ts : List ℕ) → IsKey w → BareGoes os (group.Pair b) w t ts → ValueGoes os (group.Pair b) t (w ++ ts)
goes_run os b [] t ts key h = absurd key
goes_run os b (c ∷ w) t ts key h =
    let holds = (and_parts _ _ key).0 in (
      Word (c ∷ w ++ h.0),
      h.1,
      Value.bare (begins_bare (length os) c (w ++ ts) (key_no_quote c holds) (ne_eqb c 91 (key_char_is_none c 91 holds refl)) (ne_eqb c 123 (key_char_is_none c 123 holds refl)) (key_ends_not (length os) c holds))
          (bare_front (length os) (c ∷ w) ts h.0 h.1 key h.2),
      h.3,
    )

-- the run is no key: what stands behind the comma is its value
pub run_value : (os : List Group) (b : Begun) (w : List ℕ) (c : ℕ) → IsKey w → is_key_char c ≡ false → (c == 61) ≡ false → (t : Short) (ts : List ℕ)
    → BareGoes os (group.Pair b) w t (c ∷ ts) ↔ Behind os (group.Pair b) t (44 ∷ w ++ c ∷ ts)
run_value os b w c key fails other t ts =
    let all = key_spaces w (c ∷ ts) key in
    let none : BeginsPair (without_spaces (w ++ c ∷ ts)) → ⊥ = subst (λ x. BeginsPair x → ⊥) (sym all) (λ p. eqb-false c 61 other (pair_front w ts c (key_all w key) fails p)) in (
      (λ h. value_comma b os t (w ++ c ∷ ts) none (subst (λ x. ValueGoes os (group.Pair b) t x) (sym all) (goes_run os b w t (c ∷ ts) key h))),
      (λ h. run_goes os b w t (c ∷ ts) key (subst (λ x. ValueGoes os (group.Pair b) t x) all (comma_value b os t (w ++ c ∷ ts) none h.2 refl h.3))),
    )

-- the run is a key: the pair before it ends at the comma
key_pairs : (b : Begun) (os : List Group) (t : Short) (us : List ℕ) → BeginsPair (without_spaces us) → {all rest : List ℕ} {more : List Short} → MoreValues (length os) all more rest → all ≡ 44 ∷ us
    → PairsGo os (Closes os t) t (b.fields ++ pair_of b.key (b.values ++ more) ∷ []) rest → PairsGo os (Closes os t) t (all_pairs b) (44 ∷ us)
key_pairs b os t us begins {all = all} MoreValues.last_value is h =
    subst (λ r. PairsGo os (Closes os t) t (all_pairs b) r) is (subst (λ F. PairsGo os (Closes os t) t F all) (values_none b) h)
key_pairs b os t us begins (MoreValues.more_values e apart v m) is h =
    absurd (apart (subst (λ x. BeginsPair (without_spaces x)) (sym (tail_is (sym e ∙ is))) begins))

pub run_key : (os : List Group) (b : Begun) (w : List ℕ) → IsKey w → (t : Short) (ts : List ℕ) → PairGoes os (all_pairs b) t (w ++ 61 ∷ ts) ↔ Behind os (group.Pair b) t (44 ∷ w ++ 61 ∷ ts)
run_key os b w key t ts =
    let all = key_spaces w (61 ∷ ts) key in
    let begins : BeginsPair (without_spaces (w ++ 61 ∷ ts)) = subst BeginsPair (sym all) (w, ts, key, refl) in (
      (λ h. (
        [],
        44 ∷ w ++ 61 ∷ ts,
        MoreValues.last_value,
        subst (λ F. PairsGo os (Closes os t) t F (44 ∷ w ++ 61 ∷ ts)) (sym (values_none b)) ((comma_pairs os t (all_pairs b) (w ++ 61 ∷ ts)).0 (subst (λ x. PairGoes os (all_pairs b) t x) (sym all) h)),
      )),
      (λ h. subst (λ x. PairGoes os (all_pairs b) t x) all ((comma_pairs os t (all_pairs b) (w ++ 61 ∷ ts)).1 (key_pairs b os t (w ++ 61 ∷ ts) begins h.2 refl h.3))),
    )

pub run_step : (os : List Group) (b : Begun) (w : List ℕ) (c : ℕ) → IsProper b → IsKey w → StepOf (λ t ts. BareGoes os (group.Pair b) w t (c ∷ ts)) (bare os (group.Pair b) w c)
    → StepOf (λ t ts. Behind os (group.Pair b) t (44 ∷ w ++ c ∷ ts)) (in_run os (group.Pair b) w c)
run_step os b w c proper key after =
    let G : Short → List ℕ → Type 0 = λ t ts. Behind os (group.Pair b) t (44 ∷ w ++ c ∷ ts) in
    either (StepOf G) (is_key_char c) (at os (place.Bare (group.Pair b) (w ++ c ∷ []) run.Key)) _
    (λ holds t ts. subst (λ x. Behind os (group.Pair b) t (44 ∷ x) ↔ Behind os (group.Pair b) t (44 ∷ w ++ c ∷ ts)) (sym (append_assoc w (c ∷ []) ts)) (no_change G t ts))
    (λ fails. either (StepOf G) (c == 61) (begun os (with_pair b) w) (bare os (group.Pair b) w c)
    (λ e. subst (λ F. StepOf G (begun os F w)) (sym (pair_added b proper))
    (subst (λ x. StepOf (λ t ts. Behind os (group.Pair b) t (44 ∷ w ++ x ∷ ts)) (begun os (all_pairs b) w)) (sym (eqb-true c 61 e))
    (same_step (λ t ts. PairGoes os (all_pairs b) t (w ++ 61 ∷ ts)) (λ t ts. Behind os (group.Pair b) t (44 ∷ w ++ 61 ∷ ts)) (begun os (all_pairs b) w) (run_key os b w key) (begun_step os (all_pairs b) w key))))
    (λ other. same_step (λ t ts. BareGoes os (group.Pair b) w t (c ∷ ts)) G (bare os (group.Pair b) w c) (run_value os b w c key fails other) after))
