-- The first character of a value, and what stands behind `=`, `[` and commas.
use Rattle.std.proofs.Common.{◌≡◌, ℕ, suc, ◌<◌, ◌≤◌, ◌==◌, nat_lt, true, false, if◌then◌else◌, List, [], ◌∷◌, ◌++◌, length, refl, sym, ap, subst, ◌∙◌, arith, ⊎_elim, append_assoc, append-nil}
use Rattle.std.specs.Prelude.{◌↔◌, Err}
use Rattle.std.proofs.lemmas.Bool.{eqb-true, eqb-false, eq-eqb, ltb-true, ltb-false, lt-ltb, not-true, or_parts, or_left, or_right, and_from}
use Rattle.texts.specs.declared.pairs.Pair.{Pair}
use Rattle.shorthand.specs.declared.begun.Begun.{Begun}
use Rattle.shorthand.specs.declared.begun.Group.{Group}
use Rattle.shorthand.specs.declared.begun.Group.TheVariants as group
use Rattle.shorthand.specs.declared.fault.Stop.TheVariants.{Refused}
use Rattle.shorthand.specs.declared.places.Place.{Place}
use Rattle.shorthand.specs.declared.places.Place.TheVariants as place
use Rattle.shorthand.specs.declared.short.Short.{Short}
use Rattle.shorthand.specs.declared.short.Short.TheVariants.{Word, Items, Fields}
use Rattle.shorthand.specs.Grammar.{without_spaces, is_quote, ends_bare, pair_of, BeginsBare, Bare, Quoted, Value, Inside, TextAt, Values}
use Rattle.shorthand.specs.Reading.{with_pair, with_value, at, closed, plain, deeper, start, comma_behind, behind_in_pair, first, first_item}
use Rattle.shorthand.proofs.Characters.{either, head_is, tail_is, untrue, told_apart, ends_is, begins_bare, space_skipped, no_space}
use Rattle.shorthand.proofs.Goes.{PairsGo, Closes, Behind, ValueGoes, PairGoes, BareGoes, QuotedGoes, FirstGoes, Goes, StepOf}
use Rattle.shorthand.proofs.GroupSteps.{same_step, no_change, closes_step, comma_pairs, closing, closing_step, pairs_at, all_pairs, IsProper, pair_added, distinct_all, values_none}
use Rattle.shorthand.proofs.StartSteps.{plain_step}

-- what a value without quotes doesn't begin with
no_bare : (n c : ℕ) (all ts : List ℕ) → BeginsBare n all → all ≡ c ∷ ts → (is_quote c ≡ false) × ((c == 91) ≡ false) × ((c == 123) ≡ false) × (ends_bare n c ≡ false)
no_bare n c all ts b is =
    let none = not-true _ (subst (BeginsBare n) is b) in
    let first = or_parts _ _ none in
    let second = or_parts _ _ first.0 in
    let third = or_parts _ _ second.0 in
    (third.0, third.1, second.1, first.1)

quote_not : (q d : ℕ) → is_quote q ≡ true → is_quote d ≡ false → q ≡ d → ⊥
quote_not q d holds fails = told_apart is_quote q d holds fails

-- a value in quotes
quote_goes : (os : List Group) (o : Group) (t : Short) (c : ℕ) (ts : List ℕ) {all rest : List ℕ} {v : Short} → Value (length os) all v rest → all ≡ c ∷ ts → is_quote c ≡ true
    → Behind os (with_value o v) t rest → QuotedGoes os o c [] t ts
quote_goes os o t c ts (Value.quoted {us = xs} {w = w} {rest = rest} e quote b) is holds h =
    let whole : Quoted c xs w rest = subst (λ q. Quoted q xs w rest) (head_is (sym e ∙ is)) b in
    (w, rest, subst (λ us. Quoted c us w rest) (tail_is (sym e ∙ is)) whole, h)
quote_goes os o t c ts (Value.brackets e less i) is holds h = absurd (quote_not c 91 holds refl (sym (head_is (sym e ∙ is))))
quote_goes os o t c ts (Value.braces e less i close) is holds h = absurd (quote_not c 123 holds refl (sym (head_is (sym e ∙ is))))
quote_goes os o t c ts (Value.bare begins b) is holds h = absurd (untrue (no_bare (length os) c _ ts begins is).0 holds)

-- a list in brackets
list_goes : (os : List Group) (o : Group) (t : Short) (c : ℕ) (ts : List ℕ) {all rest : List ℕ} {v : Short} → Value (length os) all v rest → all ≡ c ∷ ts → c ≡ 91
    → Behind os (with_value o v) t rest → (length os < 100) × FirstGoes (o ∷ os) (group.Items []) t ts
list_goes os o t c ts (Value.quoted e quote b) is list h = absurd (quote_not _ 91 quote refl (head_is (sym e ∙ is) ∙ list))
list_goes os o t c ts (Value.brackets {rest = rest} {vs = vs} e less i) is list h =
    (less, (vs, rest, subst (λ us. Inside (suc (length os)) (without_spaces us) vs rest) (tail_is (sym e ∙ is)) i, h))
list_goes os o t c ts (Value.braces e less i close) is list h = absurd (eqb-false 123 91 refl (head_is (sym e ∙ is) ∙ list))
list_goes os o t c ts (Value.bare begins b) is list h = absurd (eqb-false c 91 (no_bare (length os) c _ ts begins is).1 list)

-- a text in braces
text_goes : (os : List Group) (o : Group) (t : Short) {ts us rest : List ℕ} {ps : List (Pair Short)} → TextAt (suc (length os)) ts ps us → us ≡ 125 ∷ rest
    → Behind os (with_value o (Fields ps)) t rest → PairGoes (o ∷ os) [] t ts
text_goes os o t {us = us} {rest = rest} (TextAt.text {us = ws} {p = p} {ps = ps} pa m d) close h = (p, ws, pa, (ps, us, m, d, (rest, close, h)))

braces_go : (os : List Group) (o : Group) (t : Short) (c : ℕ) (ts : List ℕ) {all rest : List ℕ} {v : Short} → Value (length os) all v rest → all ≡ c ∷ ts → c ≡ 123
    → Behind os (with_value o v) t rest → (length os < 100) × PairGoes (o ∷ os) [] t (without_spaces ts)
braces_go os o t c ts (Value.quoted e quote b) is text h = absurd (quote_not _ 123 quote refl (head_is (sym e ∙ is) ∙ text))
braces_go os o t c ts (Value.brackets e less i) is text h = absurd (eqb-false 91 123 refl (head_is (sym e ∙ is) ∙ text))
braces_go os o t c ts (Value.braces {us = us} e less i close) is text h =
    (less, subst (λ x. PairGoes (o ∷ os) [] t (without_spaces x)) (tail_is (sym e ∙ is)) (text_goes os o t i close h))
braces_go os o t c ts (Value.bare begins b) is text h = absurd (eqb-false c 123 (no_bare (length os) c _ ts begins is).2 text)

-- a value without quotes
value_bare : (os : List Group) (o : Group) (t : Short) (c : ℕ) (ts : List ℕ) {all rest : List ℕ} {v : Short} → Value (length os) all v rest → all ≡ c ∷ ts
    → is_quote c ≡ false → (c == 91) ≡ false → (c == 123) ≡ false → Behind os (with_value o v) t rest → BareGoes os o [] t (c ∷ ts)
value_bare os o t c ts (Value.quoted e quote b) is no_quote no_list no_text h = absurd (untrue no_quote (subst (λ x. is_quote x ≡ true) (head_is (sym e ∙ is)) quote))
value_bare os o t c ts (Value.brackets e less i) is no_quote no_list no_text h = absurd (eqb-false c 91 no_list (sym (head_is (sym e ∙ is))))
value_bare os o t c ts (Value.braces e less i close) is no_quote no_list no_text h = absurd (eqb-false c 123 no_text (sym (head_is (sym e ∙ is))))
value_bare os o t c ts (Value.bare {w = w} {rest = rest} begins b) is no_quote no_list no_text h = (w, rest, subst (λ us. Bare (length os) us w rest) is b, h)

-- no value begins with what ends one
ends_quote : (n c : ℕ) → ends_bare n c ≡ true → is_quote c ≡ true → ⊥
ends_quote n c end quote =
    ⊎_elim (λ h. quote_not c 44 quote refl h) (λ more. ⊎_elim (λ h. quote_not c 93 quote refl h) (λ h. quote_not c 125 quote refl h) more) (ends_is n c end)

ends_other : (n c d : ℕ) → ends_bare n c ≡ true → d ≡ c → (d ≡ 44 → ⊥) → (d ≡ 93 → ⊥) → (d ≡ 125 → ⊥) → ⊥
ends_other n c d end is comma bracket brace =
    ⊎_elim (λ h. comma (is ∙ h)) (λ more. ⊎_elim (λ h. bracket (is ∙ h)) (λ h. brace (is ∙ h)) more) (ends_is n c end)

pub no_value_ends : (c : ℕ) (ts : List ℕ) {n : ℕ} {all rest : List ℕ} {v : Short} → Value n all v rest → all ≡ c ∷ ts → ends_bare n c ≡ true → ⊥
no_value_ends c ts {n = n} (Value.quoted e quote b) is end = ends_quote n c end (subst (λ x. is_quote x ≡ true) (head_is (sym e ∙ is)) quote)
no_value_ends c ts {n = n} (Value.brackets e less i) is end = ends_other n c 91 end (head_is (sym e ∙ is)) (λ h. absurd (omega arith)) (λ h. absurd (omega arith)) (λ h. absurd (omega arith))
no_value_ends c ts {n = n} (Value.braces e less i close) is end = ends_other n c 123 end (head_is (sym e ∙ is)) (λ h. absurd (omega arith)) (λ h. absurd (omega arith)) (λ h. absurd (omega arith))
no_value_ends c ts {n = n} (Value.bare begins b) is end = untrue (no_bare n c _ ts begins is).3 end

-- a bracket that opens, where it may
deeper_step : (os : List Group) (o : Group) (p : Place) (G : Short → List ℕ → Type 0) → (length os < 100 → (t : Short) (ts : List ℕ) → Goes (o ∷ os) p t ts ↔ G t ts)
    → (100 ≤ length os → (t : Short) (ts : List ℕ) → G t ts → ⊥) → StepOf G (deeper os o p)
deeper_step os o p G inside too_deep =
    either (StepOf G) (nat_lt (length os) 100) (at (o ∷ os) p) (Err Refused) (λ less. inside (ltb-true _ _ less)) (λ more. too_deep (ltb-false _ _ more))

pub start_step : (os : List Group) (o : Group) (c : ℕ) → StepOf (λ t ts. ValueGoes os o t (c ∷ ts)) (start os o c)
start_step os o c =
    let G : Short → List ℕ → Type 0 = λ t ts. ValueGoes os o t (c ∷ ts) in
    either (StepOf G) (is_quote c) (at os (place.Quoted o c [] false)) _
    (λ quote t ts. (
      (λ h. (Word h.0, h.1, Value.quoted refl quote h.2, h.3)),
      (λ h. quote_goes os o t c ts h.2 refl quote h.3),
    ))
    (λ no_quote. either (StepOf G) (c == 91) (deeper os o (place.First (group.Items []))) _
    (λ e. let list = eqb-true c 91 e in deeper_step os o (place.First (group.Items [])) G
    (λ less t ts. (
      (λ h. (Items h.0, h.1, Value.brackets (ap (λ d. d ∷ ts) list) less h.2, h.3)),
      (λ h. (list_goes os o t c ts h.2 refl list h.3).1),
    ))
    (λ more t ts h. let less = (list_goes os o t c ts h.2 refl list h.3).0 in absurd (omega arith)))
    (λ no_list. either (StepOf G) (c == 123) (deeper os o (place.Key [] [] true)) _
    (λ e. let text = eqb-true c 123 e in deeper_step os o (place.Key [] [] true) G
    (λ less t ts. (
      (λ h. braced os o c text less t ts h),
      (λ h. (braces_go os o t c ts h.2 refl text h.3).1),
    ))
    (λ more t ts h. let less = (braces_go os o t c ts h.2 refl text h.3).0 in absurd (omega arith)))
    (λ no_text. either (StepOf G) (ends_bare (length os) c) (Err Refused) (plain os o [] c)
    (λ end t ts h. no_value_ends c ts h.2 refl end)
    (λ go_on. same_step (λ t ts. BareGoes os o [] t (c ∷ ts)) G (plain os o [] c)
    (λ t ts. (
      (λ h. (Word h.0, h.1, Value.bare (begins_bare (length os) c ts no_quote no_list no_text go_on) h.2, h.3)),
      (λ h. value_bare os o t c ts h.2 refl no_quote no_list no_text h.3),
    ))
    (plain_step os o [] c go_on)))))
  where
    braced : (os : List Group) (o : Group) (c : ℕ) → c ≡ 123 → length os < 100 → (t : Short) (ts : List ℕ) → PairGoes (o ∷ os) [] t (without_spaces ts) → ValueGoes os o t (c ∷ ts)
    braced os o c text less t ts h =
        let more = h.3 in
        (Fields (h.0 ∷ more.0), more.4.0, Value.braces (ap (λ d. d ∷ ts) text) less (TextAt.text h.2 more.2 more.3) more.4.1, more.4.2)

-- Behind `[`.

end_list : (os : List Group) (t : Short) (vs : List Short) (c : ℕ) (ts : List ℕ) {all rest : List ℕ} {more : List Short} → Inside (length os) all more rest → all ≡ c ∷ ts → c ≡ 93
    → Closes os t (Items (vs ++ more)) rest → Closes os t (Items vs) ts
end_list os t vs c ts (Inside.no_item e) is close h =
    subst (λ ws. Closes os t (Items ws) ts) (append-nil vs) (subst (λ r. Closes os t (Items (vs ++ [])) r) (tail_is (sym e ∙ is)) h)
end_list [] t vs c ts (Inside.items v m) is close h = absurd h
end_list (o ∷ os) t vs c ts (Inside.items v m) is close h = absurd (no_value_ends c ts v is (bracket_ends os c close))
  where
    bracket_ends : (os : List Group) (c : ℕ) → c ≡ 93 → ends_bare (suc (length os)) c ≡ true
    bracket_ends os c close = or_right _ _ (and_from _ _ (lt-ltb 0 (suc (length os)) (omega arith)) (or_left _ _ (eq-eqb c 93 close)))

item_goes : (os : List Group) (t : Short) (vs : List Short) (c : ℕ) (ts : List ℕ) {all rest : List ℕ} {more : List Short} → Inside (length os) all more rest → all ≡ c ∷ ts → (c ≡ 93 → ⊥)
    → Closes os t (Items (vs ++ more)) rest → ValueGoes os (group.Items vs) t (c ∷ ts)
item_goes os t vs c ts (Inside.no_item e) is close h = absurd (close (sym (head_is (sym e ∙ is))))
item_goes os t vs c ts (Inside.items {us = us} {rest = rest} {v = v} {vs = more} value m) is close h =
    (v, us, subst (λ all. Value (length os) all v us) is value, (more, rest, m, subst (λ ws. Closes os t (Items ws) rest) (sym (append_assoc vs (v ∷ []) more)) h))

pub first_item_step : (os : List Group) (vs : List Short) (c : ℕ) → StepOf (λ t ts. FirstGoes os (group.Items vs) t (c ∷ ts)) (first_item os vs c)
first_item_step os vs c =
    let G : Short → List ℕ → Type 0 = λ t ts. FirstGoes os (group.Items vs) t (c ∷ ts) in
    let at_text : List ℕ → Short → Type 0 = λ all t. (more : List Short) × (rest : List ℕ) × Inside (length os) all more rest × Closes os t (Items (vs ++ more)) rest in
    either (StepOf G) (c == 32) (at os (place.First (group.Items vs))) _
    (λ e t ts. subst (λ all. at_text (without_spaces ts) t ↔ at_text all t) (sym (space_skipped c ts e)) (no_change (λ t ts. at_text (without_spaces ts) t) t ts))
    (λ fails. same_step (λ t ts. at_text (c ∷ ts) t) G (if c == 93 then closed os (Items vs) else start os (group.Items vs) c)
    (λ t ts. subst (λ all. at_text (c ∷ ts) t ↔ at_text all t) (sym (no_space c ts fails)) (no_change (λ t ts. at_text (c ∷ ts) t) t ts))
    (let H : Short → List ℕ → Type 0 = λ t ts. at_text (c ∷ ts) t in
    either (StepOf H) (c == 93) (closed os (Items vs)) (start os (group.Items vs) c)
    (λ e. let close = eqb-true c 93 e in same_step (λ t ts. Closes os t (Items vs) ts) H (closed os (Items vs))
    (λ t ts. (
      (λ h. ([], ts, Inside.no_item (ap (λ d. d ∷ ts) close), subst (λ ws. Closes os t (Items ws) ts) (sym (append-nil vs)) h)),
      (λ h. end_list os t vs c ts h.2 refl close h.3),
    )) (closes_step os (Items vs)))
    (λ no_close. same_step (λ t ts. ValueGoes os (group.Items vs) t (c ∷ ts)) H (start os (group.Items vs) c)
    (λ t ts. (
      (λ h. let more = h.3 in (h.0 ∷ more.0, more.1, Inside.items h.2 more.2, subst (λ ws. Closes os t (Items ws) more.1) (append_assoc vs (h.0 ∷ []) more.0) more.3)),
      (λ h. item_goes os t vs c ts h.2 refl (eqb-false c 93 no_close) h.3),
    )) (start_step os (group.Items vs) c))))

-- Behind `=`.

-- the pairs with one that has one value more
pub more_of : (b : Begun) (v : Short) (vs : List Short) → b.fields ++ pair_of b.key ((b.values ++ v ∷ []) ++ vs) ∷ [] ≡ b.fields ++ pair_of b.key (b.values ++ v ∷ vs) ∷ []
more_of b v vs = ap (λ ws. b.fields ++ pair_of b.key ws ∷ []) (append_assoc b.values (v ∷ []) vs)

no_values : (os : List Group) (b : Begun) (t : Short) (c : ℕ) (ts : List ℕ) {all us : List ℕ} {more : List Short} → Values (length os) all more us → all ≡ c ∷ ts → ends_bare (length os) c ≡ true
    → PairsGo os (Closes os t) t (b.fields ++ pair_of b.key (b.values ++ more) ∷ []) us → PairsGo os (Closes os t) t (all_pairs b) (c ∷ ts)
no_values os b t c ts {all = all} Values.no_value is end h =
    subst (λ r. PairsGo os (Closes os t) t (all_pairs b) r) is (subst (λ F. PairsGo os (Closes os t) t F all) (values_none b) h)
no_values os b t c ts (Values.values v m) is end h = absurd (no_value_ends c ts v is end)

-- behind `=` no pair ends before a character with which a value may go on
not_ended : (os : List Group) (t : Short) (F : List (Pair Short)) (c : ℕ) (ts : List ℕ) → ends_bare (length os) c ≡ false → PairsGo os (Closes os t) t F (c ∷ ts) → ⊥
not_ended os t F c ts go_on h =
    ⊎_elim (λ comma. untrue go_on (or_left _ _ (eq-eqb c 44 comma)))
    (λ brace. untrue go_on (or_right _ _ (and_from _ _ (lt-ltb 0 (length os) brace.0) (or_right _ _ (eq-eqb c 125 brace.1))))) (pairs_at os t F c ts h.2 refl h.4)

first_value : (os : List Group) (b : Begun) (t : Short) (c : ℕ) (ts : List ℕ) {all us : List ℕ} {more : List Short} → Values (length os) all more us → all ≡ c ∷ ts → ends_bare (length os) c ≡ false
    → PairsGo os (Closes os t) t (b.fields ++ pair_of b.key (b.values ++ more) ∷ []) us → ValueGoes os (group.Pair b) t (c ∷ ts)
first_value os b t c ts Values.no_value is go_on h =
    absurd (not_ended os t (b.fields ++ pair_of b.key (b.values ++ []) ∷ []) c ts go_on (subst (λ r. PairsGo os (Closes os t) t (b.fields ++ pair_of b.key (b.values ++ []) ∷ []) r) is h))
first_value os b t c ts (Values.values {us = ws} {rest = us} {v = v} {vs = more} value m) is go_on h =
    (v, ws, subst (λ all. Value (length os) all v ws) is value, (more, us, m, subst (λ F. PairsGo os (Closes os t) t F us) (sym (more_of b v more)) h))

comma_key : (vs : List Short) (b : Begun) → vs ≡ [] → comma_behind vs b ≡ place.Key (with_pair b) [] true
comma_key [] b h = refl
comma_key (v ∷ vs) b h = absurd (no_items h)
  where
    no_items : v ∷ vs ≡ [] → ⊥
    no_items e = cc

first_ends : (os : List Group) (b : Begun) (c : ℕ) → IsProper b → b.values ≡ [] → ends_bare (length os) c ≡ true → StepOf (λ t ts. FirstGoes os (group.Pair b) t (c ∷ ts)) (behind_in_pair os b c)
first_ends os b c proper none end =
    let G : Short → List ℕ → Type 0 = λ t ts. FirstGoes os (group.Pair b) t (c ∷ ts) in
    let H : Short → List ℕ → Type 0 = λ t ts. PairsGo os (Closes os t) t (all_pairs b) (c ∷ ts) in
    same_step H G (behind_in_pair os b c)
    (λ t ts. (
      (λ h. ([], c ∷ ts, Values.no_value, subst (λ F. PairsGo os (Closes os t) t F (c ∷ ts)) (sym (values_none b)) h)),
      (λ h. no_values os b t c ts h.2 refl end h.3),
    ))
    (either (StepOf H) (c == 44) (at os (comma_behind b.values b)) (closing os (with_pair b) c)
    (λ e. subst (λ p. StepOf H (at os p)) (sym (comma_key b.values b none))
    (subst (λ F. StepOf H (at os (place.Key F [] true))) (sym (pair_added b proper))
    (λ t ts. subst (λ x. PairGoes os (all_pairs b) t (without_spaces ts) ↔ PairsGo os (Closes os t) t (all_pairs b) (x ∷ ts)) (sym (eqb-true c 44 e)) (comma_pairs os t (all_pairs b) ts))))
    (λ fails. subst (λ F. StepOf H (closing os F c)) (sym (pair_added b proper)) (closing_step os (all_pairs b) c (distinct_all b proper) fails)))

pub first_pair_step : (os : List Group) (b : Begun) (c : ℕ) → IsProper b → b.values ≡ [] → StepOf (λ t ts. FirstGoes os (group.Pair b) t (c ∷ ts)) (first os (group.Pair b) c)
first_pair_step os b c proper none =
    let G : Short → List ℕ → Type 0 = λ t ts. FirstGoes os (group.Pair b) t (c ∷ ts) in
    either (StepOf G) (ends_bare (length os) c) (behind_in_pair os b c) (start os (group.Pair b) c)
    (λ end. first_ends os b c proper none end)
    (λ go_on. same_step (λ t ts. ValueGoes os (group.Pair b) t (c ∷ ts)) G (start os (group.Pair b) c)
    (λ t ts. (
      (λ h. let more = h.3 in (h.0 ∷ more.0, more.1, Values.values h.2 more.2, subst (λ F. PairsGo os (Closes os t) t F more.1) (more_of b h.0 more.0) more.3)),
      (λ h. first_value os b t c ts h.2 refl go_on h.3),
    )) (start_step os (group.Pair b) c))
