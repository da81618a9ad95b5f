-- Where values stand: their shapes, and how their members write times.
use Rattle.std.specs.Prelude.{List, Option, None, Some, slice_get, unwrap_or}
use Rattle.service_model.specs.declared.shape.Member.{Member}
use Rattle.service_model.specs.declared.shape.Shape.{Shape}
use Rattle.service_model.specs.declared.shape.ShapeId.{ShapeId}
use Rattle.service_model.specs.declared.shape.TimeForm.{TimeForm}
use Rattle.value_texts.specs.declared.slot.Slot.{Slot}

abbrev pub slot_of_shape : ShapeId → Slot
slot_of_shape id = record { shape = id; time = None }

abbrev pub slot_of_member : Member → Slot
slot_of_member m = record { shape = m.shape; time = m.time }

-- `timestampFormat` of a shape
abbrev pub form_of_shape : Option Shape → TimeForm → TimeForm
form_of_shape None usual = usual
form_of_shape (Some shape) usual = unwrap_or shape.time usual

-- how times are written: as the member says, else its shape, else as is usual in the part of the request
abbrev pub form_at : List Shape → TimeForm → Slot → TimeForm
form_at shapes usual slot = unwrap_or slot.time (form_of_shape (slice_get shapes slot.shape.0) usual)
