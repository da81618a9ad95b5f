-- What holds wherever a text is read: keys are distinct, and the characters of a key at the end are known.
use Rattle.std.proofs.Common.{◌≡◌, ℕ, ◌==◌, nat_lt, Bool, true, false, ◌&&◌, if◌then◌else◌, List, [], ◌∷◌, ◌++◌, length, Option, None, Some, refl, sym, ap, subst, ◌∙◌, ⊎_elim}
use Rattle.std.specs.Prelude.{IfSome, IfOk, Err, encode_utf8_all}
use Rattle.std.proofs.lemmas.Bool.{eqb-true}
use Rattle.std.specs.List.{list_all}
use Rattle.texts.specs.declared.pairs.Pair.{Pair}
use Rattle.texts.specs.Keys.{keys, IsDistinct}
use Rattle.texts.proofs.Keyed.{IsDistinct-put}
use Rattle.shorthand.specs.declared.begun.Begun.{Begun}
use Rattle.shorthand.specs.declared.begun.Group.{Group}
use Rattle.shorthand.specs.declared.begun.Group.TheVariants as group
use Rattle.shorthand.specs.declared.fault.Stop.TheVariants.{Refused, RepeatedKey}
use Rattle.shorthand.specs.declared.places.Place.{Place}
use Rattle.shorthand.specs.declared.places.Place.TheVariants as place
use Rattle.shorthand.specs.declared.places.Reader.{Reader}
use Rattle.shorthand.specs.declared.places.Run.{Run}
use Rattle.shorthand.specs.declared.places.Run.TheVariants as run
use Rattle.shorthand.specs.declared.short.Short.{Short}
use Rattle.shorthand.specs.declared.short.Short.TheVariants.{Word, Items, Fields}
use Rattle.shorthand.specs.Grammar.{is_key_char, is_quote, ends_bare, value_of, IsKey}
use Rattle.shorthand.specs.Reading.{with_pair, with_value, has_key, Next, at, begun, key_ends, in_key, closed, comma_behind, behind_in_pair, behind_item, behind, plain, bare, behind_backslash, in_run, in_quotes, deeper, start, first, next_value, next, step_at}
use Rattle.shorthand.proofs.Characters.{either, untrue, quote_is, key_all, key_more, all_more}
use Rattle.shorthand.proofs.GroupSteps.{IsProper, IsFull}
use Rattle.shorthand.proofs.Pairs.{new_key}

abbrev pub IsProperGroup : Group → Type 0
IsProperGroup (group.Items vs) = Unit {0}
IsProperGroup (group.Pair b) = IsProper b

-- outermost is a pair of the text
abbrev pub IsOutermost : Group → Type 0
IsOutermost (group.Items vs) = ⊥
IsOutermost (group.Pair b) = IsProper b

abbrev pub Stands : List Group → Group → Type 0
Stands [] o = IsOutermost o
Stands (p ∷ os) o = IsProperGroup o × Stands os p

abbrev pub AreProper : List Group → Type 0
AreProper [] = Unit {0}
AreProper (p ∷ os) = Stands os p

-- a pair has values
abbrev pub HasValues : Group → Type 0
HasValues (group.Items vs) = Unit {0}
HasValues (group.Pair b) = IsFull b.values

abbrev pub HasNone : Group → Type 0
HasNone (group.Items vs) = Unit {0}
HasNone (group.Pair b) = b.values ≡ []

-- what may still be a key stands in a pair
abbrev pub RunIn : Run → Group → List ℕ → Type 0
RunIn run.Plain o w = Unit {0}
RunIn run.Backslash o w = Unit {0}
RunIn run.Key (group.Items vs) w = ⊥
RunIn run.Key (group.Pair b) w = IsFull b.values × IsKey w

abbrev pub IsValid : List Group → Place → Type 0
IsValid os (place.Key ps k skips) = AreProper os × IsDistinct (keys ps) × (list_all is_key_char k ≡ true)
IsValid os (place.First o) = Stands os o × HasNone o
IsValid os (place.Next o) = Stands os o × HasValues o
IsValid os (place.Bare o w r) = Stands os o × RunIn r o w
IsValid os (place.Quoted o q w e) = Stands os o × (is_quote q ≡ true)
IsValid os (place.Behind o) = Stands os o × HasValues o

-- the characters of a key at the end, where `=` may be refused or end a key
abbrev pub pending : Place → Option (List ℕ)
pending (place.Key ps k skips) = Some k
pending (place.First o) = Some []
pending (place.Next o) = Some []
pending (place.Bare o w run.Plain) = None
pending (place.Bare o w run.Backslash) = None
pending (place.Bare o w run.Key) = Some w
pending (place.Quoted o q w e) = None
pending (place.Behind o) = Some []

-- the characters of a key at the end, after one more
abbrev pub next_trail : List ℕ → ℕ → List ℕ
next_trail trail c = if is_key_char c then trail ++ c ∷ [] else []

abbrev pub Trails : List ℕ → Place → Type 0
Trails trail p = IfSome (pending p) (λ k. trail ≡ k)

abbrev pub IsKept : List ℕ → ℕ → Reader → Type 0
IsKept trail c r = IsValid r.outer r.place × Trails (next_trail trail c) r.place

abbrev pub Keeps : List ℕ → ℕ → Next → Type 0
Keeps trail c next = IfOk next (IsKept trail c)

no_trail : (trail : List ℕ) (c : ℕ) → is_key_char c ≡ false → next_trail trail c ≡ []
no_trail trail c other = ap (λ b. if b then trail ++ c ∷ [] else []) other

-- behind a character that has a meaning
mark_trail : (trail : List ℕ) (c d : ℕ) → (c == d) ≡ true → is_key_char d ≡ false → next_trail trail c ≡ []
mark_trail trail c d is other = no_trail trail c (subst (λ x. is_key_char x ≡ false) (sym (eqb-true c d is)) other)

key_trail : (trail : List ℕ) (c : ℕ) → is_key_char c ≡ true → next_trail trail c ≡ trail ++ c ∷ []
key_trail trail c is = ap (λ b. if b then trail ++ c ∷ [] else []) is

proper_with : (o : Group) (v : Short) → IsProperGroup o → IsProperGroup (with_value o v)
proper_with (group.Items vs) v h = tt
proper_with (group.Pair b) v h = record { distinct = h.distinct; new = h.new }

outermost_with : (o : Group) (v : Short) → IsOutermost o → IsOutermost (with_value o v)
outermost_with (group.Items vs) v h = h
outermost_with (group.Pair b) v h = record { distinct = h.distinct; new = h.new }

pub stands_with : (os : List Group) (o : Group) (v : Short) → Stands os o → Stands os (with_value o v)
stands_with [] o v h = outermost_with o v h
stands_with (p ∷ os) o v h = (proper_with o v h.0, h.1)

full_with : (vs : List Short) (v : Short) → IsFull (vs ++ v ∷ [])
full_with [] v = tt
full_with (w ∷ vs) v = tt

pub values_with : (o : Group) (v : Short) → HasValues (with_value o v)
values_with (group.Items vs) v = tt
values_with (group.Pair b) v = full_with b.values v

pub around : (os : List Group) (o : Group) → Stands os o → AreProper os
around [] o h = tt
around (p ∷ os) o h = h.1

pub proper_of : (os : List Group) (b : Begun) → Stands os (group.Pair b) → IsProper b
proper_of [] b h = h
proper_of (p ∷ os) b h = h.0

pair_stands : (os : List Group) (b : Begun) → AreProper os → IsProper b → Stands os (group.Pair b)
pair_stands [] b h proper = proper
pair_stands (p ∷ os) b h proper = (proper, h)

closed_kept : (trail : List ℕ) (c : ℕ) (os : List Group) (v : Short) → AreProper os → next_trail trail c ≡ [] → Keeps trail c (closed os v)
closed_kept trail c [] v h none = tt
closed_kept trail c (o ∷ os) v h none = ((stands_with os o v h, values_with o v), none)

item_kept : (trail : List ℕ) (c : ℕ) (os : List Group) (vs : List Short) → Stands os (group.Items vs) → Keeps trail c (behind_item os vs c)
item_kept trail c os vs h =
    either (Keeps trail c) (c == 44) (at os (place.Next (group.Items vs))) _
    (λ e. ((h, tt), mark_trail trail c 44 e refl))
    (λ other. either (Keeps trail c) (c == 93) (closed os (Items vs)) (Err Refused) (λ e. closed_kept trail c os (Items vs) (around os (group.Items vs) h) (mark_trail trail c 93 e refl)) (λ none. tt))

comma_kept : (trail : List ℕ) (c : ℕ) (os : List Group) (b : Begun) (vs : List Short) → vs ≡ b.values → Stands os (group.Pair b) → next_trail trail c ≡ [] → Keeps trail c (at os (comma_behind vs b))
comma_kept trail c os b [] is h none =
    ((around os (group.Pair b) h, IsDistinct-put b.fields b.key (value_of b.values) (proper_of os b h).distinct, refl), none)
comma_kept trail c os b (v ∷ vs) is h none = ((h, subst IsFull is tt), none)

pair_kept : (trail : List ℕ) (c : ℕ) (os : List Group) (b : Begun) → Stands os (group.Pair b) → Keeps trail c (behind_in_pair os b c)
pair_kept trail c os b h =
    either (Keeps trail c) (c == 44) (at os (comma_behind b.values b)) _
    (λ e. comma_kept trail c os b b.values refl h (mark_trail trail c 44 e refl))
    (λ other. either (Keeps trail c) (c == 125) (closed os (Fields (with_pair b))) (Err Refused) (λ e. closed_kept trail c os (Fields (with_pair b)) (around os (group.Pair b) h) (mark_trail trail c 125 e refl)) (λ none. tt))

behind_kept : (trail : List ℕ) (c : ℕ) (os : List Group) (o : Group) → Stands os o → Keeps trail c (behind os o c)
behind_kept trail c os (group.Items vs) h = item_kept trail c os vs h
behind_kept trail c os (group.Pair b) h = pair_kept trail c os b h

plain_kept : (trail : List ℕ) (c : ℕ) (os : List Group) (o : Group) (w : List ℕ) → Stands os o → Keeps trail c (plain os o w c)
plain_kept trail c os o w h = either (Keeps trail c) (c == 92) (at os (place.Bare o w run.Backslash)) (at os (place.Bare o (w ++ c ∷ []) run.Plain)) (λ e. ((h, tt), tt)) (λ other. ((h, tt), tt))

bare_kept : (trail : List ℕ) (c : ℕ) (os : List Group) (o : Group) (w : List ℕ) → Stands os o → Keeps trail c (bare os o w c)
bare_kept trail c os o w h =
    either (Keeps trail c) (ends_bare (length os) c) (behind os (with_value o (Word w)) c) (plain os o w c)
    (λ end. behind_kept trail c os (with_value o (Word w)) (stands_with os o (Word w) h)) (λ go_on. plain_kept trail c os o w h)

deeper_kept : (trail : List ℕ) (c : ℕ) (os : List Group) (o : Group) (p : Place) → IsValid (o ∷ os) p → Trails (next_trail trail c) p → Keeps trail c (deeper os o p)
deeper_kept trail c os o p valid trails = either (Keeps trail c) (nat_lt (length os) 100) (at (o ∷ os) p) (Err Refused) (λ less. (valid, trails)) (λ more. tt)

pub is_no_backslash : (q : ℕ) → is_quote q ≡ true → q ≡ 92 → ⊥
is_no_backslash q quote e = untrue refl (subst (λ x. is_quote x ≡ true) e quote)

start_kept : (trail : List ℕ) (c : ℕ) (os : List Group) (o : Group) → IsProperGroup o → Stands os o → Keeps trail c (start os o c)
start_kept trail c os o proper h =
    either (Keeps trail c) (is_quote c) (at os (place.Quoted o c [] false)) _
    (λ quote. ((h, quote), tt))
    (λ no_quote. either (Keeps trail c) (c == 91) (deeper os o (place.First (group.Items []))) _
    (λ e. deeper_kept trail c os o (place.First (group.Items [])) ((tt, h), tt) (mark_trail trail c 91 e refl))
    (λ no_list. either (Keeps trail c) (c == 123) (deeper os o (place.Key [] [] true)) _
    (λ e. deeper_kept trail c os o (place.Key [] [] true) (h, tt, refl) (mark_trail trail c 123 e refl))
    (λ no_text. either (Keeps trail c) (ends_bare (length os) c) (Err Refused) (plain os o [] c) (λ end. tt) (λ go_on. plain_kept trail c os o [] h))))

proper_group : (os : List Group) (o : Group) → Stands os o → IsProperGroup o
proper_group [] (group.Items vs) h = tt
proper_group [] (group.Pair b) h = h
proper_group (p ∷ os) o h = h.0

begun_kept : (trail : List ℕ) (c : ℕ) (os : List Group) (ps : List (Pair Short)) (k : List ℕ) → AreProper os → IsDistinct (keys ps) → next_trail trail c ≡ [] → Keeps trail c (begun os ps k)
begun_kept trail c os ps k h distinct none =
    let b : Begun = record { fields = ps; key = k; values = [] } in
    either (Keeps trail c) (has_key k ps) (Err (RepeatedKey (length (encode_utf8_all k)))) (at os (place.First (group.Pair b)))
    (λ found. tt) (λ new. ((pair_stands os b h (record { distinct = distinct; new = new_key ps k new }), refl), none))

key_ends_kept : (trail : List ℕ) (c : ℕ) (os : List Group) (ps : List (Pair Short)) (k : List ℕ) (skips : Bool) → AreProper os → IsDistinct (keys ps) → is_key_char c ≡ false → Keeps trail c (key_ends os ps k skips c)
key_ends_kept trail c os ps [] skips h distinct other =
    either (Keeps trail c) (skips && (c == 32)) (at os (place.Key ps [] skips)) (Err Refused) (λ e. ((h, distinct, refl), no_trail trail c other)) (λ none. tt)
key_ends_kept trail c os ps (d ∷ k) skips h distinct other =
    either (Keeps trail c) (c == 61) (begun os ps (d ∷ k)) (Err Refused) (λ e. begun_kept trail c os ps (d ∷ k) h distinct (no_trail trail c other)) (λ none. tt)

key_kept : (trail : List ℕ) (c : ℕ) (os : List Group) (ps : List (Pair Short)) (k : List ℕ) (skips : Bool) → IsValid os (place.Key ps k skips) → trail ≡ k → Keeps trail c (in_key os ps k skips c)
key_kept trail c os ps k skips h is =
    either (Keeps trail c) (is_key_char c) (at os (place.Key ps (k ++ c ∷ []) skips)) (key_ends os ps k skips c)
    (λ key. ((h.0, h.1, all_more k c h.2 key), key_trail trail c key ∙ ap (λ x. x ++ c ∷ []) is))
    (λ other. key_ends_kept trail c os ps k skips h.0 h.1 other)

first_kept : (trail : List ℕ) (c : ℕ) (os : List Group) (o : Group) → IsValid os (place.First o) → Keeps trail c (first os o c)
first_kept trail c os (group.Items vs) h =
    either (Keeps trail c) (c == 32) (at os (place.First (group.Items vs))) _
    (λ e. (h, mark_trail trail c 32 e refl))
    (λ other. either (Keeps trail c) (c == 93) (closed os (Items vs)) (start os (group.Items vs) c)
    (λ e. closed_kept trail c os (Items vs) (around os (group.Items vs) h.0) (mark_trail trail c 93 e refl)) (λ more. start_kept trail c os (group.Items vs) tt h.0))
first_kept trail c os (group.Pair b) h =
    either (Keeps trail c) (ends_bare (length os) c) (behind_in_pair os b c) (start os (group.Pair b) c)
    (λ end. pair_kept trail c os b h.0) (λ go_on. start_kept trail c os (group.Pair b) (proper_of os b h.0) h.0)

next_value_kept : (trail : List ℕ) (c : ℕ) (os : List Group) (o : Group) → IsValid os (place.Next o) → trail ≡ [] → Keeps trail c (next_value os o c)
next_value_kept trail c os (group.Items vs) h none = start_kept trail c os (group.Items vs) tt h.0
next_value_kept trail c os (group.Pair b) h none =
    either (Keeps trail c) (is_key_char c) (at os (place.Bare (group.Pair b) (c ∷ []) run.Key)) (start os (group.Pair b) c)
    (λ key. ((h.0, (h.1, key_more [] c refl key)), key_trail trail c key ∙ ap (λ x. x ++ c ∷ []) none))
    (λ other. start_kept trail c os (group.Pair b) (proper_of os b h.0) h.0)

next_kept : (trail : List ℕ) (c : ℕ) (os : List Group) (o : Group) → IsValid os (place.Next o) → trail ≡ [] → Keeps trail c (next os o c)
next_kept trail c os o h none =
    either (Keeps trail c) (c == 32) (at os (place.Next o)) (next_value os o c) (λ e. (h, mark_trail trail c 32 e refl)) (λ other. next_value_kept trail c os o h none)

run_kept : (trail : List ℕ) (c : ℕ) (os : List Group) (o : Group) (w : List ℕ) → IsValid os (place.Bare o w run.Key) → trail ≡ w → Keeps trail c (in_run os o w c)
run_kept trail c os (group.Items vs) w h is = absurd h.1
run_kept trail c os (group.Pair b) w h is =
    either (Keeps trail c) (is_key_char c) (at os (place.Bare (group.Pair b) (w ++ c ∷ []) run.Key)) _
    (λ key. ((h.0, (h.1.0, key_more w c (key_all w h.1.1) key)), key_trail trail c key ∙ ap (λ x. x ++ c ∷ []) is))
    (λ other. either (Keeps trail c) (c == 61) (begun os (with_pair b) w) (bare os (group.Pair b) w c)
    (λ e. begun_kept trail c os (with_pair b) w (around os (group.Pair b) h.0) (IsDistinct-put b.fields b.key (value_of b.values) (proper_of os b h.0).distinct) (no_trail trail c other))
    (λ none. bare_kept trail c os (group.Pair b) w h.0))

backslash_kept : (trail : List ℕ) (c : ℕ) (os : List Group) (o : Group) (w : List ℕ) → Stands os o → Keeps trail c (behind_backslash os o w c)
backslash_kept trail c os o w h = either (Keeps trail c) (c == 44) (at os (place.Bare o (w ++ c ∷ []) run.Plain)) (bare os o (w ++ 92 ∷ []) c) (λ e. ((h, tt), tt)) (λ other. bare_kept trail c os o (w ++ 92 ∷ []) h)

quote_no_key : (q : ℕ) → is_quote q ≡ true → is_key_char q ≡ false
quote_no_key q quote = ⊎_elim (λ e. subst (λ x. is_key_char x ≡ false) (sym e) refl) (λ e. subst (λ x. is_key_char x ≡ false) (sym e) refl) (quote_is q quote)

quoted_kept : (trail : List ℕ) (c : ℕ) (os : List Group) (o : Group) (q : ℕ) (w : List ℕ) (e : Bool) → IsValid os (place.Quoted o q w e) → Keeps trail c (in_quotes os o q w e c)
quoted_kept trail c os o q w true h = (h, tt)
quoted_kept trail c os o q w false h =
    either (Keeps trail c) (c == q) (at os (place.Behind (with_value o (Word w)))) _
    (λ e. ((stands_with os o (Word w) h.0, values_with o (Word w)), mark_trail trail c q e (quote_no_key q h.1)))
    (λ other. either (Keeps trail c) (c == 92) (at os (place.Quoted o q w true)) (at os (place.Quoted o q (w ++ c ∷ []) false)) (λ e. (h, tt)) (λ none. (h, tt)))

pub step_kept : (trail : List ℕ) (c : ℕ) (os : List Group) (p : Place) → IsValid os p → Trails trail p → Keeps trail c (step_at os p c)
step_kept trail c os (place.Key ps k skips) h trails = key_kept trail c os ps k skips h trails
step_kept trail c os (place.First o) h trails = first_kept trail c os o h
step_kept trail c os (place.Next o) h trails = next_kept trail c os o h trails
step_kept trail c os (place.Bare o w run.Plain) h trails = bare_kept trail c os o w h.0
step_kept trail c os (place.Bare o w run.Backslash) h trails = backslash_kept trail c os o w h.0
step_kept trail c os (place.Bare o w run.Key) h trails = run_kept trail c os o w h trails
step_kept trail c os (place.Quoted o q w e) h trails = quoted_kept trail c os o q w e h
step_kept trail c os (place.Behind o) h trails = behind_kept trail c os o h.0
