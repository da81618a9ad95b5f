-- Members in the query.
use Rattle.std.specs.Prelude.{ℕ, Bool, false, true, if◌then◌else◌, List, [], ◌∷◌, Option, None, Some}
use Rattle.std.specs.List.{flat_map}
use Rattle.service_model.specs.declared.shape.Location.{Location}
use Rattle.service_model.specs.declared.shape.Location.TheVariants as location
use Rattle.service_model.specs.declared.shape.Member.{Member}
use Rattle.service_model.specs.declared.shape.Shape.{Shape}
use Rattle.service_model.specs.declared.shape.ShapeId.{ShapeId}
use Rattle.service_model.specs.declared.shape.TimeForm.TheVariants as form
use Rattle.service_model.specs.Kept.{item_at}
use Rattle.texts.specs.Keys.{value_at}
use Rattle.texts.specs.declared.pairs.Pair.{Pair}
use Rattle.typed_value.specs.declared.typed.Typed.{Typed, out-Typed}
use Rattle.typed_value.specs.declared.typed.Typed.TheOpen.{Typed-F}
use Rattle.uri_texts.specs.declared.escapes.Slashes.TheVariants.{Escaped}
use Rattle.uri_texts.specs.Escapes.{escaped}
use Rattle.value_texts.specs.declared.slot.Slot.{Slot}
use Rattle.value_texts.specs.Scalars.{text_at}
use Rattle.value_texts.specs.Slots.{slot_of_shape, slot_of_member}

-- a name and its value, both escaped
abbrev pub parameter : List Shape → Slot → List ℕ → Typed → List ℕ × List ℕ
parameter shapes slot name v = (escaped Escaped name, escaped Escaped (text_at shapes form.Iso8601 slot v))

abbrev pub item_parameters : List Shape → Option ShapeId → List ℕ → Typed → List (List ℕ × List ℕ)
item_parameters shapes None name v = []
item_parameters shapes (Some id) name v = parameter shapes (slot_of_shape id) name v ∷ []

-- a list repeats its name
abbrev pub parameters_in : List Shape → Slot → List ℕ → Typed → Typed-F Typed → List (List ℕ × List ℕ)
parameters_in shapes slot name v (Typed-F.Items vs) = flat_map (item_parameters shapes (item_at shapes slot.shape) name) vs
parameters_in shapes slot name v others = parameter shapes slot name v ∷ []

abbrev pub value_parameters : List Shape → Slot → List ℕ → Typed → List (List ℕ × List ℕ)
value_parameters shapes slot name v = parameters_in shapes slot name v (out-Typed v)

abbrev pub entry_parameters : List Shape → Option ShapeId → Pair Typed → List (List ℕ × List ℕ)
entry_parameters shapes None p = []
entry_parameters shapes (Some id) p = value_parameters shapes (slot_of_shape id) p.key p.value

-- a map gives its own keys
abbrev pub member_parameters_in : List Shape → Member → Typed → Typed-F Typed → List (List ℕ × List ℕ)
member_parameters_in shapes m v (Typed-F.Fields ps) = flat_map (entry_parameters shapes (item_at shapes m.shape)) ps
member_parameters_in shapes m v others = value_parameters shapes (slot_of_member m) m.wire v

abbrev pub member_parameters : List Shape → Member → Typed → List (List ℕ × List ℕ)
member_parameters shapes m v = member_parameters_in shapes m v (out-Typed v)

abbrev pub is_in_query : Option Location → Bool
is_in_query (Some location.Querystring) = true
is_in_query others = false

abbrev pub given_parameters : List Shape → Member → Option Typed → List (List ℕ × List ℕ)
given_parameters shapes m None = []
given_parameters shapes m (Some v) = member_parameters shapes m v

-- the members that stand in the query, in the model's order
abbrev pub parameters_of : List Shape → List Member → List (Pair Typed) → List (List ℕ × List ℕ)
parameters_of shapes members ps =
    flat_map (λ m. if is_in_query m.location then given_parameters shapes m (value_at m.name ps) else []) members
