-- Behind a value: the commas and the brackets that close.
use Rattle.std.proofs.Common.{◌≡◌, ℕ, ◌==◌, false, if◌then◌else◌, List, [], ◌∷◌, ◌++◌, length, refl, sym, ap, subst, ◌∙◌, arith, append_assoc, append-nil, ◌<◌, ◌⊎◌, inl, inr}
use Rattle.std.specs.Prelude.{◌↔◌, Ok, Err}
use Rattle.std.proofs.lemmas.Bool.{eqb-true, eqb-false}
use Rattle.texts.specs.declared.pairs.Pair.{Pair}
use Rattle.texts.specs.Keys.{keys, IsNew, IsDistinct}
use Rattle.shorthand.specs.declared.begun.Begun.{Begun}
use Rattle.shorthand.specs.declared.begun.Group.{Group}
use Rattle.shorthand.specs.declared.begun.Group.TheVariants as group
use Rattle.shorthand.specs.declared.fault.Stop.TheVariants.{Refused}
use Rattle.shorthand.specs.declared.places.Place.TheVariants as place
use Rattle.shorthand.specs.declared.short.Short.{Short}
use Rattle.shorthand.specs.declared.short.Short.TheVariants.{Items, Fields}
use Rattle.shorthand.specs.Grammar.{without_spaces, pair_of, MoreItems, MorePairs, PairAt, MoreValues}
use Rattle.shorthand.specs.Reading.{with_pair, Next, at, closed, comma_behind, behind_item, behind_in_pair}
use Rattle.shorthand.proofs.Characters.{either, head_is, tail_is, not_nil}
use Rattle.shorthand.proofs.Goes.{Ends, PairsGo, Closes, Behind, PairGoes, StepOf}
use Rattle.shorthand.proofs.Pairs.{put_new}
use Rattle.texts.proofs.Keyed.{IsDistinct-push}

pub same_step : (G H : Short → List ℕ → Type 0) (r : Next) → ((t : Short) (ts : List ℕ) → G t ts ↔ H t ts) → StepOf G r → StepOf H r
same_step G H (Ok r) same h = λ t ts. ((λ x. (same t ts).0 ((h t ts).0 x)), (λ y. (h t ts).1 ((same t ts).1 y)))
same_step G H (Err s) same h = λ t ts y. h t ts ((same t ts).1 y)

pub no_change : (G : Short → List ℕ → Type 0) (t : Short) (ts : List ℕ) → G t ts ↔ G t ts
no_change G t ts = ((λ h. h), (λ h. h))

pub closes_step : (os : List Group) (v : Short) → StepOf (λ t ts. Closes os t v ts) (closed os v)
closes_step [] v = λ t ts h. h
closes_step (o ∷ os) v = λ t ts. no_change (λ t ts. Closes (o ∷ os) t v ts) t ts

-- Lists in brackets.

items_close : (os : List Group) (t : Short) (vs : List Short) (ts : List ℕ) → Closes os t (Items vs) ts → Behind os (group.Items vs) t (93 ∷ ts)
items_close os t vs ts h = ([], ts, MoreItems.last_item refl, subst (λ ws. Closes os t (Items ws) ts) (sym (append-nil vs)) h)

close_items : (os : List Group) (t : Short) (vs : List Short) (c : ℕ) (ts : List ℕ) {n : ℕ} {all rest : List ℕ} {more : List Short}
    → MoreItems n all more rest → all ≡ c ∷ ts → c ≡ 93 → Closes os t (Items (vs ++ more)) rest → Closes os t (Items vs) ts
close_items os t vs c ts (MoreItems.last_item e) is close h =
    subst (λ ws. Closes os t (Items ws) ts) (append-nil vs) (subst (λ r. Closes os t (Items (vs ++ [])) r) (tail_is (sym e ∙ is)) h)
close_items os t vs c ts (MoreItems.more_items e v m) is close h =
    absurd (eqb-false 44 93 refl (head_is (sym e ∙ is) ∙ close))

no_item_more : (c : ℕ) (ts : List ℕ) {n : ℕ} {all rest : List ℕ} {more : List Short} → MoreItems n all more rest → all ≡ c ∷ ts → (c ≡ 44 → ⊥) → (c ≡ 93 → ⊥) → ⊥
no_item_more c ts (MoreItems.last_item e) is comma close = close (sym (head_is (sym e ∙ is)))
no_item_more c ts (MoreItems.more_items e v m) is comma close = comma (sym (head_is (sym e ∙ is)))

pub item_step : (os : List Group) (vs : List Short) (c : ℕ) → StepOf (λ t ts. Behind os (group.Items vs) t (c ∷ ts)) (behind_item os vs c)
item_step os vs c =
    let G : Short → List ℕ → Type 0 = λ t ts. Behind os (group.Items vs) t (c ∷ ts) in
    either (StepOf G) (c == 44) (at os (place.Next (group.Items vs))) (if c == 93 then closed os (Items vs) else Err Refused)
    (λ e t ts. subst (λ x. Behind os (group.Items vs) t (44 ∷ ts) ↔ Behind os (group.Items vs) t (x ∷ ts)) (sym (eqb-true c 44 e)) ((λ h. h), (λ h. h)))
    (λ fails. either (StepOf G) (c == 93) (closed os (Items vs)) (Err Refused)
    (λ e. same_step (λ t ts. Closes os t (Items vs) ts) G (closed os (Items vs))
    (λ t ts. ((λ h. subst (λ x. Behind os (group.Items vs) t (x ∷ ts)) (sym (eqb-true c 93 e)) (items_close os t vs ts h)), (λ h. close_items os t vs c ts h.2 refl (eqb-true c 93 e) h.3)))
    (closes_step os (Items vs)))
    (λ no_close t ts h. no_item_more c ts h.2 refl (eqb-false c 44 fails) (eqb-false c 93 no_close)))

-- Texts.

ends_only : (os : List Group) (C : Short → List ℕ → Type 0) (t : Short) (ps : List (Pair Short)) (c : ℕ) (ts all : List ℕ) → Ends os C t ps all → all ≡ c ∷ ts → c ≡ 125
ends_only [] C t ps c ts all e is = absurd (not_nil (sym is ∙ e.0))
ends_only (o ∷ os) C t ps c ts all e is = head_is (sym is ∙ e.1)

ends_open : (os : List Group) (C : Short → List ℕ → Type 0) (t : Short) (ps : List (Pair Short)) (c : ℕ) (ts all : List ℕ) → Ends os C t ps all → all ≡ c ∷ ts → (0 < length os) × (c ≡ 125)
ends_open [] C t ps c ts all e is = absurd (not_nil (sym is ∙ e.0))
ends_open (o ∷ os) C t ps c ts all e is = (omega arith, head_is (sym is ∙ e.1))

last_of : (F qs : List (Pair Short)) (p : Pair Short) → (F ++ p ∷ []) ++ qs ≡ F ++ p ∷ qs
last_of F qs p = append_assoc F (p ∷ []) qs

pairs_comma : (os : List Group) (t : Short) (F : List (Pair Short)) (ts : List ℕ) {all rest : List ℕ} {qs : List (Pair Short)} → MorePairs (length os) all qs rest → all ≡ 44 ∷ ts
    → IsDistinct (keys (F ++ qs)) → Ends os (Closes os t) t (F ++ qs) rest → PairGoes os F t (without_spaces ts)
pairs_comma os t F ts {all = all} MorePairs.last_pair is d e =
    absurd (eqb-false 44 125 refl (ends_only os (Closes os t) t (F ++ []) 44 ts all e is))
pairs_comma os t F ts {rest = rest} (MorePairs.more_pairs {ws = ws} {p = p} {ps = ps} e pa m) is d h = (
  p,
  ws,
  subst (λ x. PairAt (length os) (without_spaces x) p ws) (tail_is (sym e ∙ is)) pa,
  (ps, rest, m, subst (λ qs. IsDistinct (keys qs)) (sym (last_of F ps p)) d, subst (λ qs. Ends os (Closes os t) t qs rest) (sym (last_of F ps p)) h),
)

-- a comma among pairs, and the next pair
pub comma_pairs : (os : List Group) (t : Short) (F : List (Pair Short)) (ts : List ℕ) → PairGoes os F t (without_spaces ts) ↔ PairsGo os (Closes os t) t F (44 ∷ ts)
comma_pairs os t F ts = (
  (λ h. let more = h.3 in
      (h.0 ∷ more.0, more.1, MorePairs.more_pairs refl h.2 more.2, subst (λ qs. IsDistinct (keys qs)) (last_of F more.0 h.0) more.3, subst (λ qs. Ends os (Closes os t) t qs more.1) (last_of F more.0 h.0) more.4)),
  (λ h. pairs_comma os t F ts h.2 refl h.3 h.4),
)

pairs_close : (os : List Group) (t : Short) (F : List (Pair Short)) (ts : List ℕ) → IsDistinct (keys F) → Closes os t (Fields F) ts → PairsGo os (Closes os t) t F (125 ∷ ts)
pairs_close [] t F ts d h = absurd h
pairs_close (o ∷ os) t F ts d h =
    ([], 125 ∷ ts, MorePairs.last_pair, subst (λ qs. IsDistinct (keys qs)) (sym (append-nil F)) d, (ts, refl, subst (λ qs. Closes (o ∷ os) t (Fields qs) ts) (sym (append-nil F)) h))

ends_close : (os : List Group) (t : Short) (F : List (Pair Short)) (c : ℕ) (ts all : List ℕ) → Ends os (Closes os t) t (F ++ []) all → all ≡ c ∷ ts → Closes os t (Fields F) ts
ends_close [] t F c ts all e is = absurd (not_nil (sym is ∙ e.0))
ends_close (o ∷ os) t F c ts all e is =
    subst (λ qs. Closes (o ∷ os) t (Fields qs) ts) (append-nil F) (subst (λ r. Closes (o ∷ os) t (Fields (F ++ [])) r) (tail_is (sym e.1 ∙ is)) e.2)

close_pairs : (os : List Group) (t : Short) (F : List (Pair Short)) (c : ℕ) (ts : List ℕ) {all rest : List ℕ} {qs : List (Pair Short)} → MorePairs (length os) all qs rest → all ≡ c ∷ ts → c ≡ 125
    → Ends os (Closes os t) t (F ++ qs) rest → Closes os t (Fields F) ts
close_pairs os t F c ts {all = all} MorePairs.last_pair is close e = ends_close os t F c ts all e is
close_pairs os t F c ts (MorePairs.more_pairs e pa m) is close h =
    absurd (eqb-false 44 125 refl (head_is (sym e ∙ is) ∙ close))

-- Behind the pairs of a text stands a comma, or what ends them.
pub pairs_end : (os : List Group) (t : Short) (F : List (Pair Short)) (c : ℕ) (ts : List ℕ) {all rest : List ℕ} {qs : List (Pair Short)} → MorePairs (length os) all qs rest → all ≡ c ∷ ts
    → Ends os (Closes os t) t (F ++ qs) rest → (c ≡ 44 → ⊥) → (c ≡ 125 → ⊥) → ⊥
pairs_end os t F c ts {all = all} MorePairs.last_pair is e comma close = close (ends_only os (Closes os t) t (F ++ []) c ts all e is)
pairs_end os t F c ts (MorePairs.more_pairs e pa m) is h comma close = comma (sym (head_is (sym e ∙ is)))

-- The same, with the brace only inside braces.
pub pairs_at : (os : List Group) (t : Short) (F : List (Pair Short)) (c : ℕ) (ts : List ℕ) {all rest : List ℕ} {qs : List (Pair Short)} → MorePairs (length os) all qs rest → all ≡ c ∷ ts
    → Ends os (Closes os t) t (F ++ qs) rest → (c ≡ 44) ⊎ ((0 < length os) × (c ≡ 125))
pairs_at os t F c ts {all = all} MorePairs.last_pair is e = inr (ends_open os (Closes os t) t (F ++ []) c ts all e is)
pairs_at os t F c ts (MorePairs.more_pairs e pa m) is h = inl (sym (head_is (sym e ∙ is)))

abbrev pub closing : List Group → List (Pair Short) → ℕ → Next
closing os F c = if c == 125 then closed os (Fields F) else Err Refused

-- what isn't a comma
pub closing_step : (os : List Group) (F : List (Pair Short)) (c : ℕ) → IsDistinct (keys F) → (c == 44) ≡ false → StepOf (λ t ts. PairsGo os (Closes os t) t F (c ∷ ts)) (closing os F c)
closing_step os F c d fails =
    let G : Short → List ℕ → Type 0 = λ t ts. PairsGo os (Closes os t) t F (c ∷ ts) in
    either (StepOf G) (c == 125) (closed os (Fields F)) (Err Refused)
    (λ e. same_step (λ t ts. Closes os t (Fields F) ts) G (closed os (Fields F))
    (λ t ts. ((λ h. subst (λ x. PairsGo os (Closes os t) t F (x ∷ ts)) (sym (eqb-true c 125 e)) (pairs_close os t F ts d h)), (λ h. close_pairs os t F c ts h.2 refl (eqb-true c 125 e) h.4)))
    (closes_step os (Fields F)))
    (λ no_close t ts h. pairs_end os t F c ts h.2 refl h.4 (eqb-false c 44 fails) (eqb-false c 125 no_close))

-- the pairs with the one that was begun
abbrev pub all_pairs : Begun → List (Pair Short)
all_pairs b = b.fields ++ pair_of b.key b.values ∷ []

-- a pair whose key is new
pub record IsProper (b : Begun) : Type 0 where
  pub distinct : IsDistinct (keys b.fields)
  pub new : IsNew b.key (keys b.fields)

pub distinct_all : (b : Begun) → IsProper b → IsDistinct (keys (all_pairs b))
distinct_all b h = IsDistinct-push b.fields (pair_of b.key b.values) h.distinct h.new

pub pair_added : (b : Begun) → IsProper b → with_pair b ≡ all_pairs b
pair_added b h = put_new b.fields b.key _ h.new

pub values_none : (b : Begun) → b.fields ++ pair_of b.key (b.values ++ []) ∷ [] ≡ all_pairs b
values_none b = ap (λ vs. b.fields ++ pair_of b.key vs ∷ []) (append-nil b.values)

behind_pairs : (os : List Group) (b : Begun) (t : Short) (c : ℕ) (ts : List ℕ) {n : ℕ} {all us : List ℕ} {more : List Short} → MoreValues n all more us → all ≡ c ∷ ts → (c ≡ 44 → ⊥)
    → PairsGo os (Closes os t) t (b.fields ++ pair_of b.key (b.values ++ more) ∷ []) us → PairsGo os (Closes os t) t (all_pairs b) (c ∷ ts)
behind_pairs os b t c ts {all = all} MoreValues.last_value is comma h =
    subst (λ r. PairsGo os (Closes os t) t (all_pairs b) r) is (subst (λ F. PairsGo os (Closes os t) t F all) (values_none b) h)
behind_pairs os b t c ts (MoreValues.more_values e apart v m) is comma h = absurd (comma (sym (head_is (sym e ∙ is))))

pub no_more_values : (os : List Group) (b : Begun) (t : Short) (ts : List ℕ) → PairsGo os (Closes os t) t (all_pairs b) ts → Behind os (group.Pair b) t ts
no_more_values os b t ts h = ([], ts, MoreValues.last_value, subst (λ F. PairsGo os (Closes os t) t F ts) (sym (values_none b)) h)

-- there are values
abbrev pub IsFull : List Short → Type 0
IsFull [] = ⊥
IsFull (v ∷ vs) = Unit {0}

comma_next : (vs : List Short) (b : Begun) → IsFull vs → comma_behind vs b ≡ place.Next (group.Pair b)
comma_next [] b h = absurd h
comma_next (v ∷ vs) b h = refl

pub pair_step : (os : List Group) (b : Begun) (c : ℕ) → IsProper b → IsFull b.values → StepOf (λ t ts. Behind os (group.Pair b) t (c ∷ ts)) (behind_in_pair os b c)
pair_step os b c proper full =
    let G : Short → List ℕ → Type 0 = λ t ts. Behind os (group.Pair b) t (c ∷ ts) in
    either (StepOf G) (c == 44) (at os (comma_behind b.values b)) (closing os (with_pair b) c)
    (λ e. subst (λ p. StepOf G (at os p)) (sym (comma_next b.values b full))
    (λ t ts. subst (λ x. Behind os (group.Pair b) t (44 ∷ ts) ↔ Behind os (group.Pair b) t (x ∷ ts)) (sym (eqb-true c 44 e)) ((λ h. h), (λ h. h))))
    (λ fails. subst (λ F. StepOf G (closing os F c)) (sym (pair_added b proper))
    (same_step (λ t ts. PairsGo os (Closes os t) t (all_pairs b) (c ∷ ts)) G (closing os (all_pairs b) c)
    (λ t ts. ((λ h. no_more_values os b t (c ∷ ts) h), (λ h. behind_pairs os b t c ts h.2 refl (eqb-false c 44 fails) h.3)))
    (closing_step os (all_pairs b) c (distinct_all b proper) fails)))
