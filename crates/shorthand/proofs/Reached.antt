-- A front of a text that is read: what goes on with it, and where the fault is that is met behind it.
use Rattle.std.proofs.Common.{◌≡◌, ℕ, ◌+◌, ◌==◌, nat_lt, Bool, true, false, ◌&&◌, if◌then◌else◌, List, [], ◌∷◌, ◌++◌, length, None, Some, refl, sym, ap, subst, ◌∙◌, append_assoc, append-nil}
use Rattle.std.specs.Prelude.{◌↔◌, IfSome, IfOk, IfErr, Ok, Err, encode_utf8_all, reverse}
use Rattle.std.proofs.lemmas.Bool.{eqb-true, eqb-false}
use Rattle.std.proofs.lemmas.List.{reverse-append, reverse-reverse, length-append}
use Rattle.std.proofs.lemmas.Str.{encodes-append}
use Rattle.texts.specs.declared.pairs.Pair.{Pair}
use Rattle.texts.specs.Keys.{keys, IsDistinct}
use Rattle.shorthand.specs.declared.begun.Begun.{Begun}
use Rattle.shorthand.specs.declared.begun.Group.{Group}
use Rattle.shorthand.specs.declared.begun.Group.TheVariants as group
use Rattle.shorthand.specs.declared.fault.Stop.{Stop}
use Rattle.shorthand.specs.declared.fault.Stop.TheVariants.{Refused, RepeatedKey, OutOfMemory}
use Rattle.shorthand.specs.declared.places.Place.{Place}
use Rattle.shorthand.specs.declared.places.Place.TheVariants as place
use Rattle.shorthand.specs.declared.places.Reader.{Reader}
use Rattle.shorthand.specs.declared.places.Run.TheVariants as run
use Rattle.shorthand.specs.declared.short.Short.{Short}
use Rattle.shorthand.specs.declared.short.Short.TheVariants.{Word, Items, Fields}
use Rattle.shorthand.specs.Faults.{GoesOn, without_first_key, without_last_key, fault_front, HasFault}
use Rattle.shorthand.specs.Grammar.{is_key_char, is_quote, ends_bare, IsShorthand, PairAt, MorePairs, TextAt}
use Rattle.shorthand.specs.Reading.{with_pair, with_value, has_key, Next, at, begun, key_ends, closed, comma_behind, behind_in_pair, behind_item, behind, plain, bare, in_run, in_quotes, deeper, start, first, next_value, next, step_at, finished_at}
use Rattle.shorthand.proofs.Characters.{either, head_is, not_nil, untrue, ends_not}
use Rattle.shorthand.proofs.Completes.{completes}
use Rattle.shorthand.proofs.Finish.{ends_at}
use Rattle.shorthand.proofs.Goes.{Ends, Closes, Behind, PairGoes, BareGoes, Goes, StepOf}
use Rattle.shorthand.proofs.GroupSteps.{item_step, pair_step}
use Rattle.shorthand.proofs.StartSteps.{bare_step, backslash_step}
use Rattle.shorthand.proofs.QuoteSteps.{quoted_step, escaped_step}
use Rattle.shorthand.proofs.ValueSteps.{first_item_step, first_pair_step}
use Rattle.shorthand.proofs.CommaSteps.{next_step, key_step, run_step}
use Rattle.shorthand.proofs.Kept.{Stands, HasValues, IsValid, Trails, pending, next_trail, IsKept, stands_with, values_with, proper_of, is_no_backslash, step_kept}

-- Each step goes on with just what may stand behind it.

behind_goes : (os : List Group) (o : Group) (c : ℕ) → Stands os o → HasValues o → StepOf (λ t ts. Behind os o t (c ∷ ts)) (behind os o c)
behind_goes os (group.Items vs) c h full = item_step os vs c
behind_goes os (group.Pair b) c h full = pair_step os b c (proper_of os b h) full

word_goes : (os : List Group) (o : Group) (w : List ℕ) (c : ℕ) → Stands os o → StepOf (λ t ts. BareGoes os o w t (c ∷ ts)) (bare os o w c)
word_goes os o w c h = bare_step os o w c (behind_goes os (with_value o (Word w)) c (stands_with os o (Word w) h) (values_with o (Word w)))

pub step_goes : (os : List Group) (p : Place) (c : ℕ) → IsValid os p → StepOf (λ t ts. Goes os p t (c ∷ ts)) (step_at os p c)
step_goes os (place.Key ps k skips) c h = key_step os ps k skips c h.2
step_goes os (place.First (group.Items vs)) c h = first_item_step os vs c
step_goes os (place.First (group.Pair b)) c h = first_pair_step os b c (proper_of os b h.0) h.1
step_goes os (place.Next o) c h = next_step o os c
step_goes os (place.Bare o w run.Plain) c h = word_goes os o w c h.0
step_goes os (place.Bare o w run.Backslash) c h = backslash_step os o w c (word_goes os o (w ++ 92 ∷ []) c h.0)
step_goes os (place.Bare (group.Items vs) w run.Key) c h = absurd h.1
step_goes os (place.Bare (group.Pair b) w run.Key) c h = run_step os b w c (proper_of os b h.0) h.1.1 (word_goes os (group.Pair b) w c h.0)
step_goes os (place.Quoted o q w false) c h = quoted_step os o q w c (is_no_backslash q h.1)
step_goes os (place.Quoted o q w true) c h = escaped_step os o q w c (is_no_backslash q h.1)
step_goes os (place.Behind o) c h = behind_goes os o c h.0 h.1

-- Why a step is refused: all but a key that is found are refused where they stand.

abbrev pub OnlyRefused : Next → Type 0
OnlyRefused next = IfErr next (λ s. s ≡ Refused)

closed_only : (os : List Group) (v : Short) → OnlyRefused (closed os v)
closed_only [] v = refl
closed_only (o ∷ os) v = tt

item_only : (os : List Group) (vs : List Short) (c : ℕ) → OnlyRefused (behind_item os vs c)
item_only os vs c =
    either OnlyRefused (c == 44) (at os (place.Next (group.Items vs))) _ (λ e. tt) (λ other. either OnlyRefused (c == 93) (closed os (Items vs)) (Err Refused) (λ e. closed_only os (Items vs)) (λ none. refl))

pair_only : (os : List Group) (b : Begun) (c : ℕ) → OnlyRefused (behind_in_pair os b c)
pair_only os b c =
    either OnlyRefused (c == 44) (at os (comma_behind b.values b)) _ (λ e. tt)
    (λ other. either OnlyRefused (c == 125) (closed os (Fields (with_pair b))) (Err Refused) (λ e. closed_only os (Fields (with_pair b))) (λ none. refl))

behind_only : (os : List Group) (o : Group) (c : ℕ) → OnlyRefused (behind os o c)
behind_only os (group.Items vs) c = item_only os vs c
behind_only os (group.Pair b) c = pair_only os b c

plain_only : (os : List Group) (o : Group) (w : List ℕ) (c : ℕ) (P : Stop → Type 0) → IfErr (plain os o w c) P
plain_only os o w c P = either (λ n. IfErr n P) (c == 92) (at os (place.Bare o w run.Backslash)) (at os (place.Bare o (w ++ c ∷ []) run.Plain)) (λ e. tt) (λ other. tt)

bare_only : (os : List Group) (o : Group) (w : List ℕ) (c : ℕ) → OnlyRefused (bare os o w c)
bare_only os o w c =
    either OnlyRefused (ends_bare (length os) c) (behind os (with_value o (Word w)) c) (plain os o w c) (λ end. behind_only os (with_value o (Word w)) c) (λ go_on. plain_only os o w c (λ s. s ≡ Refused))

deeper_only : (os : List Group) (o : Group) (p : Place) → OnlyRefused (deeper os o p)
deeper_only os o p = either OnlyRefused (nat_lt (length os) 100) (at (o ∷ os) p) (Err Refused) (λ less. tt) (λ more. refl)

start_only : (os : List Group) (o : Group) (c : ℕ) → OnlyRefused (start os o c)
start_only os o c =
    either OnlyRefused (is_quote c) (at os (place.Quoted o c [] false)) _ (λ quote. tt)
    (λ no_quote. either OnlyRefused (c == 91) (deeper os o (place.First (group.Items []))) _ (λ e. deeper_only os o (place.First (group.Items [])))
    (λ no_list. either OnlyRefused (c == 123) (deeper os o (place.Key [] [] true)) _ (λ e. deeper_only os o (place.Key [] [] true))
    (λ no_text. either OnlyRefused (ends_bare (length os) c) (Err Refused) (plain os o [] c) (λ end. refl) (λ go_on. plain_only os o [] c (λ s. s ≡ Refused)))))

first_only : (os : List Group) (o : Group) (c : ℕ) → OnlyRefused (first os o c)
first_only os (group.Items vs) c =
    either OnlyRefused (c == 32) (at os (place.First (group.Items vs))) _ (λ e. tt)
    (λ other. either OnlyRefused (c == 93) (closed os (Items vs)) (start os (group.Items vs) c) (λ e. closed_only os (Items vs)) (λ more. start_only os (group.Items vs) c))
first_only os (group.Pair b) c =
    either OnlyRefused (ends_bare (length os) c) (behind_in_pair os b c) (start os (group.Pair b) c) (λ end. pair_only os b c) (λ go_on. start_only os (group.Pair b) c)

next_value_only : (os : List Group) (o : Group) (c : ℕ) → OnlyRefused (next_value os o c)
next_value_only os (group.Items vs) c = start_only os (group.Items vs) c
next_value_only os (group.Pair b) c =
    either OnlyRefused (is_key_char c) (at os (place.Bare (group.Pair b) (c ∷ []) run.Key)) (start os (group.Pair b) c) (λ key. tt) (λ other. start_only os (group.Pair b) c)

next_only : (os : List Group) (o : Group) (c : ℕ) → OnlyRefused (next os o c)
next_only os o c = either OnlyRefused (c == 32) (at os (place.Next o)) (next_value os o c) (λ e. tt) (λ other. next_value_only os o c)

-- a place where `=` goes on
no_equals : (os : List Group) (o : Group) (w : List ℕ) (P : Stop → Type 0) → IfErr (bare os o w 61) P
no_equals os o w P =
    let go_on = ends_not (length os) 61 (eqb-false 61 44 refl) (eqb-false 61 93 refl) (eqb-false 61 125 refl) in
    either (λ n. IfErr n P) (ends_bare (length os) 61) (behind os (with_value o (Word w)) 61) (plain os o w 61) (λ end. absurd (untrue go_on end)) (λ go_on. plain_only os o w 61 P)

-- what a refusal tells of the characters at the end: `=` is refused right behind a key where it stood before
abbrev pub Blames : Place → ℕ → Stop → Type 0
Blames p c Refused = c ≡ 61 → pending p ≡ Some []
Blames p c (RepeatedKey n) = (c ≡ 61) × ((k : List ℕ) × (pending p ≡ Some k) × (n ≡ length (encode_utf8_all k)))
Blames p c OutOfMemory = ⊥

blames_refused : (p : Place) (c : ℕ) (n : Next) → (c ≡ 61 → pending p ≡ Some []) → OnlyRefused n → IfErr n (Blames p c)
blames_refused p c (Ok r) h only = tt
blames_refused p c (Err s) h only = subst (Blames p c) (sym only) h

plain_blames : (p : Place) (c : ℕ) (os : List Group) (o : Group) (w : List ℕ) → IfErr (bare os o w c) (Blames p c)
plain_blames p c os o w =
    either_way (c == 61) refl
  where
    either_way : (b : Bool) → (c == 61) ≡ b → IfErr (bare os o w c) (Blames p c)
    either_way true e = subst (λ x. IfErr (bare os o w x) (Blames p x)) (sym (eqb-true c 61 e)) (no_equals os o w (Blames p 61))
    either_way false e = blames_refused p c (bare os o w c) (λ is. absurd (eqb-false c 61 e is)) (bare_only os o w c)

begun_blames : (p : Place) (c : ℕ) (os : List Group) (ps : List (Pair Short)) (k : List ℕ) → c ≡ 61 → pending p ≡ Some k → IfErr (begun os ps k) (Blames p c)
begun_blames p c os ps k is trail =
    either (λ n. IfErr n (Blames p c)) (has_key k ps) (Err (RepeatedKey (length (encode_utf8_all k)))) (at os (place.First (group.Pair (record { fields = ps; key = k; values = [] }))))
    (λ found. (is, (k, trail, refl))) (λ new. tt)

key_blames : (c : ℕ) (os : List Group) (ps : List (Pair Short)) (k : List ℕ) (skips : Bool) → IfErr (key_ends os ps k skips c) (Blames (place.Key ps k skips) c)
key_blames c os ps [] skips = either (λ n. IfErr n (Blames (place.Key ps [] skips) c)) (skips && (c == 32)) (at os (place.Key ps [] skips)) (Err Refused) (λ e. tt) (λ other is. refl)
key_blames c os ps (d ∷ k) skips =
    either (λ n. IfErr n (Blames (place.Key ps (d ∷ k) skips) c)) (c == 61) (begun os ps (d ∷ k)) (Err Refused)
    (λ e. begun_blames (place.Key ps (d ∷ k) skips) c os ps (d ∷ k) (eqb-true c 61 e) refl) (λ other is. absurd (eqb-false c 61 other is))

run_blames : (c : ℕ) (os : List Group) (o : Group) (w : List ℕ) → IsValid os (place.Bare o w run.Key) → IfErr (in_run os o w c) (Blames (place.Bare o w run.Key) c)
run_blames c os (group.Items vs) w h = absurd h.1
run_blames c os (group.Pair b) w h =
    let P : Next → Type 0 = λ n. IfErr n (Blames (place.Bare (group.Pair b) w run.Key) c) in
    either P (is_key_char c) (at os (place.Bare (group.Pair b) (w ++ c ∷ []) run.Key)) _ (λ key. tt)
    (λ other. either P (c == 61) (begun os (with_pair b) w) (bare os (group.Pair b) w c)
    (λ e. begun_blames (place.Bare (group.Pair b) w run.Key) c os (with_pair b) w (eqb-true c 61 e) refl) (λ more. plain_blames (place.Bare (group.Pair b) w run.Key) c os (group.Pair b) w))

quoted_blames : (p : Place) (c : ℕ) (os : List Group) (o : Group) (q : ℕ) (w : List ℕ) (e : Bool) → IfErr (in_quotes os o q w e c) (Blames p c)
quoted_blames p c os o q w true = tt
quoted_blames p c os o q w false =
    let P : Next → Type 0 = λ n. IfErr n (Blames p c) in
    either P (c == q) (at os (place.Behind (with_value o (Word w)))) _ (λ e. tt) (λ other. either P (c == 92) (at os (place.Quoted o q w true)) (at os (place.Quoted o q (w ++ c ∷ []) false)) (λ e. tt) (λ none. tt))

pub step_blames : (os : List Group) (p : Place) (c : ℕ) → IsValid os p → IfErr (step_at os p c) (Blames p c)
step_blames os (place.Key ps k skips) c h =
    either (λ n. IfErr n (Blames (place.Key ps k skips) c)) (is_key_char c) (at os (place.Key ps (k ++ c ∷ []) skips)) (key_ends os ps k skips c) (λ key. tt) (λ other. key_blames c os ps k skips)
step_blames os (place.First o) c h = blames_refused (place.First o) c (first os o c) (λ is. refl) (first_only os o c)
step_blames os (place.Next o) c h = blames_refused (place.Next o) c (next os o c) (λ is. refl) (next_only os o c)
step_blames os (place.Bare o w run.Plain) c h = plain_blames (place.Bare o w run.Plain) c os o w
step_blames os (place.Bare o w run.Backslash) c h =
    let p = place.Bare o w run.Backslash in
    either (λ n. IfErr n (Blames p c)) (c == 44) (at os (place.Bare o (w ++ c ∷ []) run.Plain)) (bare os o (w ++ 92 ∷ []) c) (λ e. tt) (λ other. plain_blames p c os o (w ++ 92 ∷ []))
step_blames os (place.Bare o w run.Key) c h = run_blames c os o w h
step_blames os (place.Quoted o q w e) c h = quoted_blames (place.Quoted o q w e) c os o q w e
step_blames os (place.Behind o) c h = blames_refused (place.Behind o) c (behind os o c) (λ is. refl) (behind_only os o c)

-- Fronts.

pub record IsReached (f : List ℕ) (os : List Group) (p : Place) : Type 0 where
  pub trail : List ℕ
  pub split : f ≡ without_last_key f ++ trail
  pub trails : Trails trail p
  pub valid : IsValid os p
  pub goes : (t : Short) (ts : List ℕ) → Goes os p t ts ↔ IsShorthand (f ++ ts) t

abbrev pub beginning : Place
beginning = place.Key [] [] false

start_goes : (t : Short) (ts : List ℕ) → Goes [] beginning t ts ↔ IsShorthand ts t
start_goes t ts = (
  (λ h. let more = h.3 in text_is t h.2 more.2 more.3 more.4),
  (λ h. is_text t h.1 refl h.2),
)
  where
    text_is : (t : Short) {ts us rest : List ℕ} {p : Pair Short} {qs : List (Pair Short)} → PairAt 0 ts p us → MorePairs 0 us qs rest → IsDistinct (keys (p ∷ qs)) → Ends [] (Closes [] t) t (p ∷ qs) rest → IsShorthand ts t
    text_is t {ts = ts} {p = p} {qs = qs} pa m d e = (p ∷ qs, subst (λ r. TextAt 0 ts (p ∷ qs) r) e.0 (TextAt.text pa m d), e.1)

    is_text : (t : Short) {ts rest : List ℕ} {ps : List (Pair Short)} → TextAt 0 ts ps rest → rest ≡ [] → t ≡ Fields ps → PairGoes [] [] t ts
    is_text t (TextAt.text {us = us} {rest = rest} {p = p} {ps = ps} pa m d) is e = (p, us, pa, (ps, rest, m, d, (is, e)))

reversed_more : (f : List ℕ) (c : ℕ) → reverse (f ++ c ∷ []) ≡ c ∷ reverse f
reversed_more f c = reverse-append f (c ∷ [])

split_more : (f trail : List ℕ) (c : ℕ) → f ≡ without_last_key f ++ trail → f ++ c ∷ [] ≡ without_last_key (f ++ c ∷ []) ++ next_trail trail c
split_more f trail c is =
    let shorter : Bool → List ℕ = λ b. reverse (if b then without_first_key (reverse f) else c ∷ reverse f) in
    let back : without_last_key (f ++ c ∷ []) ≡ shorter (is_key_char c) = ap (λ r. reverse (without_first_key r)) (reversed_more f c) in
    ends (is_key_char c) ∙ ap (λ r. r ++ (if is_key_char c then trail ++ c ∷ [] else [])) (sym back)
  where
    ends : (b : Bool) → f ++ c ∷ [] ≡ reverse (if b then without_first_key (reverse f) else c ∷ reverse f) ++ (if b then trail ++ c ∷ [] else [])
    ends true = ap (λ x. x ++ c ∷ []) is ∙ append_assoc (without_last_key f) trail (c ∷ [])
    ends false = sym (reverse-reverse (f ++ c ∷ [])) ∙ ap reverse (reversed_more f c) ∙ sym (append-nil (reverse (c ∷ reverse f)))

step_kept_at : (f : List ℕ) (os : List Group) (p : Place) (c : ℕ) (r : Reader) (h : IsReached f os p) → step_at os p c ≡ Ok r → IsKept h.trail c r
step_kept_at f os p c r h e = subst (λ n. IfOk n (IsKept h.trail c)) e (step_kept h.trail c os p h.valid h.trails)

-- one character more
pub reaches : (f : List ℕ) (os : List Group) (p : Place) (c : ℕ) (r : Reader) → IsReached f os p → step_at os p c ≡ Ok r → IsReached (f ++ c ∷ []) r.outer r.place
reaches f os p c r h e =
    let kept = step_kept_at f os p c r h e in
    let same = subst (λ n. StepOf (λ t ts. Goes os p t (c ∷ ts)) n) e (step_goes os p c h.valid) in
    record {
      trail = next_trail h.trail c;
      split = split_more f h.trail c h.split;
      trails = kept.1;
      valid = kept.0;
      goes = λ t ts. subst (λ x. Goes r.outer r.place t ts ↔ IsShorthand x t) (sym (append_assoc f (c ∷ []) ts))
          ((λ g. (h.goes t (c ∷ ts)).0 ((same t ts).0 g)), (λ s. (same t ts).1 ((h.goes t (c ∷ ts)).1 s)));
    }

pub begins : IsReached [] [] beginning
begins = record {
  trail = [];
  split = refl;
  trails = refl;
  valid = (tt, tt, refl);
  goes = λ t ts. start_goes t ts;
}

goes_on : (f : List ℕ) (os : List Group) (p : Place) → IsReached f os p → GoesOn f
goes_on f os p h = let some = completes os p h.valid in (some.0, some.1, (h.goes some.1 some.0).0 some.2)

trail_is : (trail k : List ℕ) (p : Place) → Trails trail p → pending p ≡ Some k → trail ≡ k
trail_is trail k p trails e = subst (λ o. IfSome o (λ k. trail ≡ k)) e trails

-- where a fault is that is met behind a front
abbrev pub BlamesAt : List ℕ → ℕ → List ℕ → Stop → Type 0
BlamesAt f c ts Refused = HasFault (f ++ c ∷ ts) (length (encode_utf8_all f))
BlamesAt f c ts (RepeatedKey n) = (start : ℕ) × (start + n ≡ length (encode_utf8_all f)) × HasFault (f ++ c ∷ ts) start
BlamesAt f c ts OutOfMemory = ⊥

fault_at : (f : List ℕ) (os : List Group) (p : Place) (c : ℕ) (s : Stop) (ts : List ℕ) → IsReached f os p → step_at os p c ≡ Err s → (n : ℕ) → n ≡ length (encode_utf8_all (fault_front f (c ∷ ts))) → HasFault (f ++ c ∷ ts) n
fault_at f os p c s ts h e n is =
    let refuse = subst (λ n. StepOf (λ t ts. Goes os p t (c ∷ ts)) n) e (step_goes os p c h.valid) in
    record {
      front = f;
      rest = c ∷ ts;
      no_tree = λ t tree. refuse t ts ((h.goes t (c ∷ ts)).1 tree);
      longest = record {
        parts = refl;
        goes_on = goes_on f os p h;
        longest = λ d more same go. refuse go.1 go.0 ((h.goes go.1 (c ∷ go.0)).1
            (subst (λ x. IsShorthand (f ++ x ∷ go.0) go.1) (sym (head_is same)) (subst (λ x. IsShorthand x go.1) (append_assoc f (d ∷ []) go.0) go.2)));
      };
      place = is;
    }

refused_front : (f trail : List ℕ) (p : Place) (c : ℕ) (ts : List ℕ) → f ≡ without_last_key f ++ trail → Trails trail p → (c ≡ 61 → pending p ≡ Some []) → f ≡ fault_front f (c ∷ ts)
refused_front f trail p c ts split trails blame =
    either (λ x. f ≡ x) (c == 61) (without_last_key f) f
    (λ e. split ∙ ap (λ x. without_last_key f ++ x) (trail_is trail [] p trails (blame (eqb-true c 61 e))) ∙ append-nil (without_last_key f)) (λ other. refl)

repeated_front : (f trail k : List ℕ) (p : Place) (c : ℕ) (ts : List ℕ) → f ≡ without_last_key f ++ trail → Trails trail p → c ≡ 61 → pending p ≡ Some k
    → length (encode_utf8_all (fault_front f (c ∷ ts))) + length (encode_utf8_all k) ≡ length (encode_utf8_all f)
repeated_front f trail k p c ts split trails is pend =
    let front : fault_front f (c ∷ ts) ≡ without_last_key f = subst (λ x. fault_front f (x ∷ ts) ≡ without_last_key f) (sym is) refl in
    let whole : f ≡ without_last_key f ++ k = split ∙ ap (λ x. without_last_key f ++ x) (trail_is trail k p trails pend) in
    let bytes : length (encode_utf8_all f) ≡ length (encode_utf8_all (without_last_key f ++ k)) = ap (λ x. length (encode_utf8_all x)) whole in
    let parts : length (encode_utf8_all (without_last_key f ++ k)) ≡ length (encode_utf8_all (without_last_key f)) + length (encode_utf8_all k) =
    ap length (encodes-append (without_last_key f) k) ∙ length-append (encode_utf8_all (without_last_key f)) (encode_utf8_all k) in
    ap (λ x. length (encode_utf8_all x) + length (encode_utf8_all k)) front ∙ sym parts ∙ sym bytes

blames_at : (f : List ℕ) (os : List Group) (p : Place) (c : ℕ) (ts : List ℕ) (s : Stop) → IsReached f os p → step_at os p c ≡ Err s → Blames p c s → BlamesAt f c ts s
blames_at f os p c ts Refused h e blame = fault_at f os p c Refused ts h e (length (encode_utf8_all f)) (ap (λ x. length (encode_utf8_all x)) (refused_front f h.trail p c ts h.split h.trails blame))
blames_at f os p c ts (RepeatedKey n) h e blame =
    let start = length (encode_utf8_all (fault_front f (c ∷ ts))) in
    (start, ap (λ x. start + x) blame.1.2 ∙ repeated_front f h.trail blame.1.0 p c ts h.split h.trails blame.0 blame.1.1, fault_at f os p c (RepeatedKey n) ts h e start refl)
blames_at f os p c ts OutOfMemory h e blame = absurd blame

-- the fault that is met at a character
pub stops_at : (f : List ℕ) (os : List Group) (p : Place) (c : ℕ) (ts : List ℕ) (s : Stop) → IsReached f os p → step_at os p c ≡ Err s → BlamesAt f c ts s
stops_at f os p c ts s h e = blames_at f os p c ts s h e (subst (λ n. IfErr n (Blames p c)) e (step_blames os p c h.valid))

-- the tree of a text that ends, or its fault
pub found_at : (f : List ℕ) (os : List Group) (p : Place) (t : Short) → IsReached f os p → finished_at os p ≡ Some t → IsShorthand f t
found_at f os p t h e = subst (λ x. IsShorthand x t) (append-nil f) ((h.goes t []).0 ((ends_at os p h.valid t).1 e))

none_some : {t : Short} → None ≡ Some t → ⊥
none_some e = cc

pub missed_at : (f : List ℕ) (os : List Group) (p : Place) → IsReached f os p → finished_at os p ≡ None → HasFault f (length (encode_utf8_all f))
missed_at f os p h e = record {
  front = f;
  rest = [];
  no_tree = λ t tree. none_some (sym e ∙ (ends_at os p h.valid t).0 ((h.goes t []).1 (subst (λ x. IsShorthand x t) (sym (append-nil f)) tree)));
  longest = record { parts = sym (append-nil f); goes_on = goes_on f os p h; longest = λ c more same go. not_nil (sym same) };
  place = refl;
}
