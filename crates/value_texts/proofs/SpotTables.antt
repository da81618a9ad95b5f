-- Where values stand, as tables of places under the names that are sent.
use Rattle.std.proofs.Common.{◌≡◌, ℕ, ◌+◌, ◌<◌, Bool, true, false, cond, if◌then◌else◌, List, [], ◌∷◌, ◌++◌, length, map, get_or, drop, Some, refl, sym, ap, ◌∙◌}
use Rattle.std.specs.Prelude.{bytes_eq, filter}
use Rattle.std.specs.List.{flat_map}
use Rattle.std.proofs.lemmas.List.{at_drop_more}
use Rattle.std.proofs.lemmas.List.Elements.{All-nil, All-cons, All-head, All-tail}
use Rattle.json_doc.specs.declared.doc.Doc.{Doc}
use Rattle.json_doc.specs.Grammar.{put_all}
use Rattle.service_model.specs.declared.shape.Member.{Member}
use Rattle.service_model.specs.declared.shape.Shape.{Shape}
use Rattle.texts.specs.Keys.{put, value_at}
use Rattle.texts.specs.declared.pairs.Pair.{Pair}
use Rattle.typed_value.specs.declared.typed.Typed.{Typed}
use Rattle.typed_value.specs.Fits.{with_values}
use Rattle.typed_value.specs.Places.{member_named}
use Rattle.value_texts.specs.declared.fields.Spot.{Spot}
use Rattle.value_texts.specs.Documents.{field, document_of, sent_as, member_field, given_field, given_fields, is_in_body}
use Rattle.value_texts.specs.Slots.{slot_of_member}
use Rattle.value_texts.specs.Inside.{AreSpots, spot_field, no_field}

abbrev spot_at : List ℕ → Spot → Pair Spot
spot_at key spot = record { key = key; value = spot }

-- a place is put where its text is
pub put-texts : (shapes : List Shape) (fields : List (Pair Typed)) (spots : List (Pair Spot)) (key : List ℕ) (spot : Spot)
    → map (spot_field shapes fields) (put spots key spot) ≡ put (map (spot_field shapes fields) spots) key (spot_field shapes fields (spot_at key spot)).value
put-texts shapes fields [] key spot = refl
put-texts shapes fields (p ∷ ps) key spot =
    elim (bytes_eq p.key key) as (λ t. map (spot_field shapes fields) (if t then spot_at key spot ∷ ps else p ∷ put ps key spot)
    ≡ (if t then field key (spot_field shapes fields (spot_at key spot)).value ∷ map (spot_field shapes fields) ps
    else spot_field shapes fields p ∷ put (map (spot_field shapes fields) ps) key (spot_field shapes fields (spot_at key spot)).value)) [
      | true ↦ refl
      | false ↦ ap (λ qs. spot_field shapes fields p ∷ qs) (put-texts shapes fields ps key spot)
    ]

-- and stays one of a field
pub put-within : (fields : List (Pair Typed)) (spots : List (Pair Spot)) (key : List ℕ) (spot : Spot)
    → AreSpots fields spots → spot.at < length fields → AreSpots fields (put spots key spot)
put-within fields [] key spot all within = All-cons (λ p. p.value.at < length fields) (spot_at key spot) [] within (All-nil (λ p. p.value.at < length fields))
put-within fields (p ∷ ps) key spot all within =
    let P : Pair Spot → Type 0 = λ q. q.value.at < length fields in
    elim (bytes_eq p.key key) as (λ t. AreSpots fields (if t then spot_at key spot ∷ ps else p ∷ put ps key spot)) [
      | true ↦ All-cons P (spot_at key spot) ps within (All-tail P p ps all)
      | false ↦ All-cons P p (put ps key spot) (All-head P p ps all) (put-within fields ps key spot (All-tail P p ps all) within)
    ]

-- one more place, of a member whose text is due next
module _ (shapes : List Shape) (fields : List (Pair Typed)) (spots made : List (Pair Spot)) (m : Member) (spot : Spot) (puts : made ≡ put spots m.wire spot)
    (slot : spot.slot ≡ slot_of_member m) (due all : List (Pair Doc)) where
  pub put-next : put_all (map (spot_field shapes fields) spots) (field m.wire (document_of shapes (get_or fields spot.at no_field).value (slot_of_member m)) ∷ due) ≡ all
      → put_all (map (spot_field shapes fields) made) due ≡ all
  put-next whole =
      let texts = map (spot_field shapes fields) spots in
      ap (λ s. put_all (map (spot_field shapes fields) s) due) puts
      ∙ ap (λ qs. put_all qs due) (put-texts shapes fields spots m.wire spot)
      ∙ ap (λ s. put_all (put texts m.wire (document_of shapes (get_or fields spot.at no_field).value s)) due) slot
      ∙ whole

-- the texts of these members that stand in a body
abbrev pub given_in : List Shape → Bool → List (Pair Typed) → List Member → List (Pair Doc)
given_in shapes is_json fields ms = given_fields shapes (filter (is_in_body is_json) ms) fields

module _ (shapes : List Shape) (is_json : Bool) (fields : List (Pair Typed)) (ms : List Member) (i : ℕ) (m : Member) (within : i < length ms) (at : m ≡ get_or ms i m) where
  abbrev left : List Member
  left = drop (i + 1) ms

  given-first : given_in shapes is_json fields (drop i ms) ≡ given_in shapes is_json fields (m ∷ left)
  given-first = at_drop_more (given_in shapes is_json fields) ms i m within ∙ ap (λ x. given_in shapes is_json fields (x ∷ left)) (sym at)

  given-inside : is_in_body is_json m ≡ true → given_in shapes is_json fields (drop i ms) ≡ given_field shapes m (value_at m.name fields) ++ given_in shapes is_json fields left
  given-inside is =
      given-first ∙ ap (λ b. given_fields shapes (cond b (m ∷ filter (is_in_body is_json) left) (filter (is_in_body is_json) left)) fields) is

  pub given-there : (v : Typed) → is_in_body is_json m ≡ true → value_at m.name fields ≡ Some v
      → given_in shapes is_json fields (drop i ms) ≡ field m.wire (document_of shapes v (slot_of_member m)) ∷ given_in shapes is_json fields left
  given-there v is there = given-inside is ∙ ap (λ o. given_field shapes m o ++ given_in shapes is_json fields left) there

-- the texts of these fields, under the names that members are sent by
abbrev pub named_in : List Shape → List Member → List (Pair Typed) → List (Pair Doc)
named_in shapes members ps = flat_map (member_field members) (with_values (document_of shapes) ps)

module _ (shapes : List Shape) (members : List Member) (ps : List (Pair Typed)) (i : ℕ) (p : Pair Typed) (within : i < length ps) (at : p ≡ get_or ps i p) where
  named-first : named_in shapes members (drop i ps) ≡ sent_as (member_named p.key members) (document_of shapes p.value) ++ named_in shapes members (drop (i + 1) ps)
  named-first = at_drop_more (named_in shapes members) ps i p within ∙ ap (λ x. named_in shapes members (x ∷ drop (i + 1) ps)) (sym at)

  pub named-there : (m : Member) → Some m ≡ member_named p.key members
      → named_in shapes members (drop i ps) ≡ field m.wire (document_of shapes p.value (slot_of_member m)) ∷ named_in shapes members (drop (i + 1) ps)
  named-there m there = named-first ∙ ap (λ o. sent_as o (document_of shapes p.value) ++ named_in shapes members (drop (i + 1) ps)) (sym there)
