-- What each character of a query's parameters passes, if each character of an escaped text does.
use Rattle.std.proofs.Common.{◌≡◌, ℕ, Bool, true, false, List, [], ◌∷◌, map, Option, None, Some, refl, ◌∙◌, if◌then◌else◌}
use Rattle.std.specs.Prelude.{filter, ◌&&◌}
use Rattle.std.specs.Cmp.Derive.{both_true}
use Rattle.std.specs.List.{list_all, flat_map}
use Rattle.std.proofs.lemmas.List.Folds.{list_all-append}
use Rattle.service_model.specs.declared.shape.Member.{Member}
use Rattle.service_model.specs.declared.shape.Shape.{Shape}
use Rattle.service_model.specs.declared.shape.ShapeId.{ShapeId}
use Rattle.service_model.specs.declared.shape.TimeForm.TheVariants.{Iso8601}
use Rattle.service_model.specs.Admission.{members_at}
use Rattle.service_model.specs.Kept.{item_at}
use Rattle.texts.specs.Cut.{cut, is_among}
use Rattle.texts.specs.Keys.{value_at}
use Rattle.texts.specs.Marks.{around_first}
use Rattle.texts.specs.declared.pairs.Pair.{Pair}
use Rattle.typed_value.specs.declared.typed.Typed.{Typed, out-Typed}
use Rattle.typed_value.specs.declared.typed.Typed.TheOpen.{Typed-F}
use Rattle.uri_texts.specs.declared.escapes.Slashes.TheVariants.{Escaped}
use Rattle.uri_texts.specs.Constants.{constant, constants, is_there}
use Rattle.uri_texts.specs.Escapes.{escaped}
use Rattle.value_texts.specs.declared.slot.Slot.{Slot}
use Rattle.value_texts.specs.Scalars.{text_at}
use Rattle.value_texts.specs.Slots.{slot_of_shape, slot_of_member}
use Rattle.serializer.specs.Faults.{Asked, Fields}
use Rattle.serializer.specs.Members.{is_json}
use Rattle.serializer.specs.Messages.{query_of}
use Rattle.serializer.specs.Queries.{parameter, item_parameters, parameters_in, entry_parameters, member_parameters_in, is_in_query, given_parameters, parameters_of}

module _ (p : ℕ → Bool) (passes : (text : List ℕ) → list_all p (escaped Escaped text) ≡ true) where
  abbrev both_pass : List ℕ × List ℕ → Bool
  both_pass q = list_all p q.0 && list_all p q.1

  abbrev all_pass : Fields → Bool
  all_pass parameters = list_all both_pass parameters

  each_stays : {X : Type 0} (f : X → Fields) → ((x : X) → all_pass (f x) ≡ true) → (xs : List X) → all_pass (flat_map f xs) ≡ true
  each_stays f each [] = refl
  each_stays f each (x ∷ xs) = list_all-append both_pass (f x) (flat_map f xs) ∙ both_true (each x) (each_stays f each xs)

  parameter_stays : (shapes : List Shape) (slot : Slot) (name : List ℕ) (v : Typed) → all_pass (parameter shapes slot name v ∷ []) ≡ true
  parameter_stays shapes slot name v =
      both_true (both_true (passes name) (passes (text_at shapes Iso8601 slot v))) refl

  item_stays : (shapes : List Shape) (item : Option ShapeId) (name : List ℕ) (v : Typed) → all_pass (item_parameters shapes item name v) ≡ true
  item_stays shapes None name v = refl
  item_stays shapes (Some id) name v = parameter_stays shapes (slot_of_shape id) name v

  inside_stays : (shapes : List Shape) (slot : Slot) (name : List ℕ) (v : Typed) (inside : Typed-F Typed)
      → all_pass (parameters_in shapes slot name v inside) ≡ true
  inside_stays shapes slot name v (Typed-F.Items vs) = each_stays _ (item_stays shapes (item_at shapes slot.shape) name) vs
  inside_stays shapes slot name v others = parameter_stays shapes slot name v

  entry_stays : (shapes : List Shape) (item : Option ShapeId) (pair : Pair Typed) → all_pass (entry_parameters shapes item pair) ≡ true
  entry_stays shapes None pair = refl
  entry_stays shapes (Some id) pair = inside_stays shapes (slot_of_shape id) pair.key pair.value (out-Typed pair.value)

  value_stays : (shapes : List Shape) (m : Member) (v : Typed) (inside : Typed-F Typed) → all_pass (member_parameters_in shapes m v inside) ≡ true
  value_stays shapes m v (Typed-F.Fields ps) = each_stays _ (entry_stays shapes (item_at shapes m.shape)) ps
  value_stays shapes m v others = inside_stays shapes (slot_of_member m) m.wire v (out-Typed v)

  given_stays : (shapes : List Shape) (m : Member) (v : Option Typed) → all_pass (given_parameters shapes m v) ≡ true
  given_stays shapes m None = refl
  given_stays shapes m (Some v) = value_stays shapes m v (out-Typed v)

  either_stays : (b : Bool) (xs ys : Fields) → all_pass xs ≡ true → all_pass ys ≡ true → all_pass (if b then xs else ys) ≡ true
  either_stays true xs ys h k = h
  either_stays false xs ys h k = k

  members_stay : (shapes : List Shape) (ms : List Member) (ps : List (Pair Typed)) → all_pass (parameters_of shapes ms ps) ≡ true
  members_stay shapes ms ps =
      each_stays (λ m. if is_in_query m.location then given_parameters shapes m (value_at m.name ps) else [])
      (λ m. either_stays (is_in_query m.location) (given_parameters shapes m (value_at m.name ps)) [] (given_stays shapes m (value_at m.name ps)) refl) ms

  constant_stays : (found : Option (List ℕ × List ℕ)) (part : List ℕ)
      → both_pass (elim found [
        | Some halves ↦ (escaped Escaped halves.0, escaped Escaped halves.1)
        | None ↦ (escaped Escaped part, [])
      ])
      ≡ true
  constant_stays None part = both_true (passes part) refl
  constant_stays (Some halves) part = both_true (passes halves.0) (passes halves.1)

  constants_stay : (parts : List (List ℕ)) → all_pass (map constant parts) ≡ true
  constants_stay [] = refl
  constants_stay (part ∷ parts) = both_true (constant_stays (around_first 61 part) part) (constants_stay parts)

  behind_stays : (found : Option (List ℕ × List ℕ))
      → all_pass (elim found [ Some halves ↦ map constant (filter is_there (cut (is_among (38 ∷ [])) halves.1)) | None ↦ [] ]) ≡ true
  behind_stays None = refl
  behind_stays (Some halves) = constants_stay (filter is_there (cut (is_among (38 ∷ [])) halves.1))

  pub query_stays : (asked : Asked) → all_pass (query_of asked) ≡ true
  query_stays asked =
      let parameters = parameters_of asked.table.shapes (members_at asked.table.shapes asked.op.input) asked.fields in
      list_all-append both_pass (constants asked.op.uri) (if is_json asked.table.metadata.protocol then [] else parameters)
      ∙ both_true (behind_stays (around_first 63 asked.op.uri))
      (either_stays (is_json asked.table.metadata.protocol) [] parameters refl
      (members_stay asked.table.shapes (members_at asked.table.shapes asked.op.input) asked.fields))
