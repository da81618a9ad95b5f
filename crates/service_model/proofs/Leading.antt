-- The shapes that lead to a marked one: what is marked so far, and what is still to be looked at.
use Rattle.std.proofs.Common.{◌≡◌, ℕ, suc, zero, ◌<◌, Bool, true, false, IsTrue, ◌||◌, nat_eq, List, [], ◌∷◌, ◌++◌, length, get_or, set, replicate, slice_get, Option, None, Some, refl, sym, ap, subst, ◌∙◌, inl, inr, ◌⊎◌, ⊎_elim, ◌↔◌, arith}
use Rattle.std.specs.List.{IsAmong, list_any}
use Rattle.std.specs.Option.{option_map_or}
use Rattle.std.proofs.lemmas.List.{get_or-set_same, get_or-set_other, length-set, length-replicate, get_or_past}
use Rattle.std.proofs.lemmas.List.Folds.{list_any-append}
use Rattle.std.proofs.lemmas.Option.{slice_get_within}
use Rattle.std.proofs.lemmas.Bool.{true≢false, or_cases, or_left, or_right, cases_eq, cases_lt, eqb-true, eq-eqb}
use Rattle.service_model.specs.declared.shape.Shape.{Shape}
use Rattle.service_model.specs.declared.shape.ShapeId.{ShapeId}
use Rattle.service_model.specs.Reach.{parts, parts_maybe, IsChain, LeadsTo, has_part, uses}

among_tested : (part : ShapeId) (ids : List ShapeId) (i : ℕ) → i < length ids → part ≡ get_or ids i part → list_any (λ id. nat_eq part.0 id.0) ids ≡ true
among_tested part [] i within is = absurd (omega (arith, within))
among_tested part (id ∷ ids) zero within is = or_left (nat_eq part.0 id.0) (list_any (λ id. nat_eq part.0 id.0) ids) (eq-eqb part.0 id.0 (ap (λ p. p.0) is))
among_tested part (id ∷ ids) (suc i) within is = or_right (nat_eq part.0 id.0) (list_any (λ id. nat_eq part.0 id.0) ids) (among_tested part ids i (omega arith) is)

tested_among : (part : ℕ) (ids : List ShapeId) → list_any (λ id. nat_eq part id.0) ids ≡ true → IsAmong ids (record { 0 = part })
tested_among part [] holds = absurd (true≢false (sym holds))
tested_among part (id ∷ ids) holds =
    ⊎_elim (λ same. (0, (omega arith, ap (λ n. record { 0 = n }) (eqb-true part id.0 same))))
    (λ later. let rest : IsAmong ids (record { 0 = part }) = tested_among part ids later in (suc rest.0, (omega (arith, rest.1.0), rest.1.1)))
    (or_cases (nat_eq part id.0) (list_any (λ id. nat_eq part id.0) ids) holds)

uses_by : (found : Option Shape) (part : ShapeId) → IsAmong (parts_maybe found) part → option_map_or (has_part part.0) found false ≡ true
uses_by None part among = absurd (omega (arith, among.1.0))
uses_by (Some shape) part among = among_tested part (parts shape) among.0 among.1.0 among.1.1

used_by : (found : Option Shape) (part : ℕ) → option_map_or (has_part part) found false ≡ true → IsAmong (parts_maybe found) (record { 0 = part })
used_by None part holds = absurd (true≢false (sym holds))
used_by (Some shape) part holds = tested_among part (parts shape) holds

any_last : (n at : ℕ) (work : List ℕ) → list_any (nat_eq n) (work ++ at ∷ []) ≡ true → (list_any (nat_eq n) work ≡ true) ⊎ (n ≡ at)
any_last n at work holds =
    ⊎_elim (λ front. inl front) (λ last. inr (eqb-true n at (⊎_elim (λ here. here) (λ none. absurd (true≢false (sym none))) (or_cases (nat_eq n at) false last))))
    (or_cases (list_any (nat_eq n) work) (list_any (nat_eq n) (at ∷ [])) (sym (list_any-append (nat_eq n) work (at ∷ [])) ∙ holds))

any_front : (n : ℕ) (work more : List ℕ) → list_any (nat_eq n) work ≡ true → list_any (nat_eq n) (work ++ more) ≡ true
any_front n work more holds = list_any-append (nat_eq n) work more ∙ or_left (list_any (nat_eq n) work) (list_any (nat_eq n) more) holds

any_behind : (n : ℕ) (work more : List ℕ) → list_any (nat_eq n) more ≡ true → list_any (nat_eq n) (work ++ more) ≡ true
any_behind n work more holds = list_any-append (nat_eq n) work more ∙ or_right (list_any (nat_eq n) work) (list_any (nat_eq n) more) holds

any_cases : (n : ℕ) (work more : List ℕ) → list_any (nat_eq n) (work ++ more) ≡ true → (list_any (nat_eq n) work ≡ true) ⊎ (list_any (nat_eq n) more ≡ true)
any_cases n work more holds = or_cases (list_any (nat_eq n) work) (list_any (nat_eq n) more) (sym (list_any-append (nat_eq n) work more) ∙ holds)

-- what is marked after one more mark
marked_cases : (leads : List Bool) (at n : ℕ) → get_or (set leads at true) n false ≡ true → (get_or leads n false ≡ true) ⊎ (n ≡ at)
marked_cases leads at n holds = ⊎_elim (λ same. inr same) (λ other. inl (sym (get_or-set_other leads at n true false other) ∙ holds)) (cases_eq n at)

marked_stays : (leads : List Bool) (at n : ℕ) → at < length leads → get_or leads n false ≡ true → get_or (set leads at true) n false ≡ true
marked_stays leads at n within holds =
    ⊎_elim (λ same. ap (λ k. get_or (set leads at true) k false) same ∙ get_or-set_same leads at true false within) (λ other. get_or-set_other leads at n true false other ∙ holds) (cases_eq n at)

marked_now : (leads : List Bool) (at n : ℕ) → at < length leads → n ≡ at → get_or (set leads at true) n false ≡ true
marked_now leads at n within same = ap (λ k. get_or (set leads at true) k false) same ∙ get_or-set_same leads at true false within

module _ (shapes : List Shape) (marked : List Bool) where
  abbrev pub Leads : ℕ → Type 0
  Leads n = LeadsTo shapes marked (record { 0 = n })

  -- a user of what leads to a marked shape leads there
  leads_by : (user part : ℕ) → uses shapes user part ≡ true → Leads part → Leads user
  leads_by user part holds led =
      (led.0, (record { 0 = part } ∷ led.1.0, (used_by (slice_get shapes user) part holds, led.1.1)), led.2)

  within_by : (found : Option Shape) (n : ℕ) (part : ShapeId) → slice_get shapes n ≡ found → IsAmong (parts_maybe found) part → n < length shapes
  within_by None n part is among = absurd (omega (arith, among.1.0))
  within_by (Some shape) n part is among = slice_get_within shapes n shape is

  chain_within : (n : ℕ) (ids : List ShapeId) (to : ShapeId) → length marked ≡ length shapes → IsChain shapes (record { 0 = n }) ids to → get_or marked to.0 false ≡ true → n < length shapes
  chain_within n [] to lengths chain is =
      ⊎_elim (λ less. less) (λ more. absurd (true≢false (sym is ∙ ap (λ (id : ShapeId). get_or marked id.0 false) (sym chain) ∙ get_or_past marked n false (omega (arith, lengths))))) (cases_lt n (length shapes))
  chain_within n (id ∷ ids) to lengths chain is = within_by (slice_get shapes n) n id refl chain.0

  pub leads_within : (n : ℕ) → length marked ≡ length shapes → Leads n → n < length shapes
  leads_within n lengths led = chain_within n led.1.0 led.0 lengths led.1.1 led.2

  -- a search from the marked shapes back to those that use them
  pub record IsSearch (leads : List Bool) (work : List ℕ) : Type 0 where
    pub size : length leads ≡ length shapes
    pub due : (n : ℕ) → list_any (nat_eq n) work ≡ true → Leads n
    pub found : (n : ℕ) → get_or leads n false ≡ true → Leads n
    pub covered : (n : ℕ) → get_or marked n false ≡ true → (get_or leads n false || list_any (nat_eq n) work) ≡ true
    pub closed : (user part : ℕ) → get_or leads part false ≡ true → uses shapes user part ≡ true → (get_or leads user false || list_any (nat_eq user) work) ≡ true

  pub due_within : (leads : List Bool) (work : List ℕ) (at : ℕ) → length marked ≡ length shapes → IsSearch leads (work ++ at ∷ []) → at < length shapes
  due_within leads work at lengths going = leads_within at lengths (going.due at (any_behind at work (at ∷ []) (or_left (nat_eq at at) false (eq-eqb at at refl))))

  unmarked : (k n : ℕ) → get_or (replicate k false) n false ≡ true → ⊥
  unmarked zero n holds = true≢false (sym holds)
  unmarked (suc k) zero holds = true≢false (sym holds)
  unmarked (suc k) (suc n) holds = unmarked k n holds

  pub starts : (work : List ℕ) → ((n : ℕ) → list_any (nat_eq n) work ≡ get_or marked n false) → IsSearch (replicate (length shapes) false) work
  starts work places = record {
    size = length-replicate (length shapes) false;
    due = λ n holds. (record { 0 = n }, ([], refl), sym (places n) ∙ holds);
    found = λ n holds. absurd (unmarked (length shapes) n holds);
    covered = λ n is. or_right (get_or (replicate (length shapes) false) n false) (list_any (nat_eq n) work) (places n ∙ is);
    closed = λ user part holds _. absurd (unmarked (length shapes) part holds);
  }

  -- what is marked already is left
  pub skips : (leads : List Bool) (work : List ℕ) (at : ℕ) → get_or leads at false ≡ true → IsSearch leads (work ++ at ∷ []) → IsSearch leads work
  skips leads work at is going =
      let kept : (n : ℕ) → (get_or leads n false || list_any (nat_eq n) (work ++ at ∷ [])) ≡ true → (get_or leads n false || list_any (nat_eq n) work) ≡ true =
      λ n holds. ⊎_elim (λ there. or_left (get_or leads n false) (list_any (nat_eq n) work) there)
      (λ due. ⊎_elim (λ front. or_right (get_or leads n false) (list_any (nat_eq n) work) front) (λ same. or_left (get_or leads n false) (list_any (nat_eq n) work) (ap (λ k. get_or leads k false) same ∙ is)) (any_last n at work due))
      (or_cases (get_or leads n false) (list_any (nat_eq n) (work ++ at ∷ [])) holds) in
      record {
        size = going.size;
        due = λ n holds. going.due n (any_front n work (at ∷ []) holds);
        found = going.found;
        covered = λ n holds. kept n (going.covered n holds);
        closed = λ user part holds used. kept user (going.closed user part holds used);
      }

  -- what isn't is marked, and its users are due
  pub takes : (leads : List Bool) (work users : List ℕ) (at : ℕ) → at < length leads → ((n : ℕ) → list_any (nat_eq n) users ≡ uses shapes n at)
      → IsSearch leads (work ++ at ∷ []) → IsSearch (set leads at true) (work ++ users)
  takes leads work users at within listed going =
      let led : Leads at = going.due at (any_behind at work (at ∷ []) (or_left (nat_eq at at) false (eq-eqb at at refl))) in
      let kept : (n : ℕ) → (get_or leads n false || list_any (nat_eq n) (work ++ at ∷ [])) ≡ true → (get_or (set leads at true) n false || list_any (nat_eq n) (work ++ users)) ≡ true =
      λ n holds. ⊎_elim (λ there. or_left (get_or (set leads at true) n false) (list_any (nat_eq n) (work ++ users)) (marked_stays leads at n within there))
      (λ due. ⊎_elim (λ front. or_right (get_or (set leads at true) n false) (list_any (nat_eq n) (work ++ users)) (any_front n work users front))
      (λ same. or_left (get_or (set leads at true) n false) (list_any (nat_eq n) (work ++ users)) (marked_now leads at n within same)) (any_last n at work due))
      (or_cases (get_or leads n false) (list_any (nat_eq n) (work ++ at ∷ [])) holds) in
      record {
        size = length-set leads at true ∙ going.size;
        due = λ n holds. ⊎_elim (λ front. going.due n (any_front n work (at ∷ []) front)) (λ user. leads_by n at (sym (listed n) ∙ user) led) (any_cases n work users holds);
        found = λ n holds. ⊎_elim (λ there. going.found n there) (λ same. subst Leads (sym same) led) (marked_cases leads at n holds);
        covered = λ n holds. kept n (going.covered n holds);
        closed = λ user part holds used.
            ⊎_elim (λ there. kept user (going.closed user part there used))
            (λ same. or_right (get_or (set leads at true) user false) (list_any (nat_eq user) (work ++ users)) (any_behind user work users (listed user ∙ ap (λ k. uses shapes user k) (sym same) ∙ used)))
            (marked_cases leads at part holds);
      }

  settled : (leads : List Bool) (n : ℕ) → (get_or leads n false || list_any (nat_eq n) []) ≡ true → get_or leads n false ≡ true
  settled leads n holds = ⊎_elim (λ there. there) (λ none. absurd (true≢false (sym none))) (or_cases (get_or leads n false) false holds)

  reaches_back : (leads : List Bool) → IsSearch leads [] → (from : ShapeId) (ids : List ShapeId) (to : ShapeId) → IsChain shapes from ids to → get_or marked to.0 false ≡ true → get_or leads from.0 false ≡ true
  reaches_back leads going from [] to chain is = settled leads from.0 (going.covered from.0 (ap (λ (id : ShapeId). get_or marked id.0 false) chain ∙ is))
  reaches_back leads going from (id ∷ ids) to chain is =
      settled leads from.0 (going.closed from.0 id.0 (reaches_back leads going id ids to chain.1 is) (uses_by (slice_get shapes from.0) id chain.0))

  -- with nothing due, the marks are where a marked shape is reached
  ends : (leads : List Bool) → IsSearch leads [] → (from : ShapeId) → IsTrue (get_or leads from.0 false) ↔ LeadsTo shapes marked from
  ends leads going from = (going.found from.0, (λ led. reaches_back leads going from led.1.0 led.0 led.1.1 led.2))

  pub ends_empty : (leads : List Bool) (work : List ℕ) → length work ≡ 0 → IsSearch leads work → (from : ShapeId) → IsTrue (get_or leads from.0 false) ↔ LeadsTo shapes marked from
  ends_empty leads [] none going from = ends leads going from
  ends_empty leads (n ∷ ns) none going from = absurd (omega (arith, none))
