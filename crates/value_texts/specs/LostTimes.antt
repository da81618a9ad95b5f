-- Times that have no text: the form of RFC 822 here has the years 1970 to 9999.
use Rattle.std.specs.Prelude.{ℤ, Bool, false, not, if◌then◌else◌, List, Option, None, Some, slice_get}
use Rattle.std.specs.List.{list_any}
use Rattle.service_model.specs.declared.shape.Member.{Member}
use Rattle.service_model.specs.declared.shape.Shape.{Shape}
use Rattle.service_model.specs.declared.shape.ShapeId.{ShapeId}
use Rattle.service_model.specs.declared.shape.TimeForm.{TimeForm}
use Rattle.service_model.specs.declared.shape.TimeForm.TheVariants as form
use Rattle.texts.specs.declared.pairs.Pair.{Pair}
use Rattle.time_texts.specs.Texts.{has_rfc822}
use Rattle.typed_value.specs.declared.typed.Typed.{Typed}
use Rattle.typed_value.specs.declared.typed.Typed.TheOpen.{Typed-F}
use Rattle.typed_value.specs.declared.typed.Typed.TheFolds.{fold-Typed}
use Rattle.typed_value.specs.Kinds.{is_map}
use Rattle.typed_value.specs.Places.{member_named}
use Rattle.value_texts.specs.declared.slot.Slot.{Slot}
use Rattle.value_texts.specs.Slots.{slot_of_shape, slot_of_member, form_at}

-- whether a time in a value has no text, given where the value stands
abbrev pub Test : Type 0
Test = Slot → Bool

abbrev pub is_lost_moment : TimeForm → ℤ → Bool
is_lost_moment form.Rfc822 t = not (has_rfc822 t)
is_lost_moment form.Unix t = false
is_lost_moment form.Iso8601 t = false

abbrev pub item_is_lost : Option ShapeId → Test → Bool
item_is_lost None test = false
item_is_lost (Some id) test = test (slot_of_shape id)

abbrev pub member_is_lost : Option Member → Test → Bool
member_is_lost None test = false
member_is_lost (Some m) test = test (slot_of_member m)

abbrev pub field_is_lost : Shape → Pair Test → Bool
field_is_lost shape p = if is_map shape.kind then item_is_lost shape.item p.value else member_is_lost (member_named p.key shape.members) p.value

abbrev pub fields_are_lost : Shape → List (Pair Test) → Bool
fields_are_lost shape ps = list_any (field_is_lost shape) ps

abbrev pub value_is_lost : List Shape → TimeForm → Shape → Typed-F Test → Slot → Bool
value_is_lost shapes usual shape (Typed-F.Moment t) slot = is_lost_moment (form_at shapes usual slot) t
value_is_lost shapes usual shape (Typed-F.Items tests) slot = list_any (item_is_lost shape.item) tests
value_is_lost shapes usual shape (Typed-F.Fields ps) slot = fields_are_lost shape ps
value_is_lost shapes usual shape others slot = false

abbrev pub shape_is_lost : List Shape → TimeForm → Option Shape → Typed-F Test → Slot → Bool
shape_is_lost shapes usual None value slot = false
shape_is_lost shapes usual (Some shape) value slot = value_is_lost shapes usual shape value slot

abbrev pub lost_step : List Shape → TimeForm → Typed-F Test → Test
lost_step shapes usual value slot = shape_is_lost shapes usual (slice_get shapes slot.shape.0) value slot

abbrev pub is_lost : List Shape → TimeForm → Typed → Test
is_lost shapes usual = fold-Typed Test (lost_step shapes usual)
