-- Where values stand.
use Rattle.std.specs.Prelude.{Bool, true, false, ◌&&◌, ◌||◌, List, Option, None, Some, option_and_then, slice_get}
use Rattle.service_model.specs.declared.shape.Kind.{Kind}
use Rattle.service_model.specs.declared.shape.Kind.TheVariants as kind
use Rattle.service_model.specs.declared.shape.Member.{Member}
use Rattle.service_model.specs.declared.shape.Shape.{Shape}
use Rattle.service_model.specs.declared.shape.ShapeId.{ShapeId}
use Rattle.typed_value.specs.Kinds.{is_header, is_list}
use Rattle.shape_values.specs.declared.place.Place.{Place}

-- an item of a list, or a value of a map
abbrev pub of_shape : ShapeId → Place
of_shape id = record { shape = id; is_json = false }

-- the value of a member; a header may hold a JSON document
abbrev pub of_member : Member → Place
of_member m = record { shape = m.shape; is_json = m.json_value && is_header m.location }

-- only a JSON document is taken
abbrev pub takes_json : Place → Shape → Bool
takes_json place shape = place.is_json || shape.document

abbrev pub is_float : Kind → Bool
is_float kind.Float = true
is_float kind.Double = true
is_float others = false

abbrev pub is_list_shape : Option Shape → Bool
is_list_shape None = false
is_list_shape (Some shape) = is_list shape.kind

-- a list of lists
abbrev pub holds_lists : List Shape → Shape → Bool
holds_lists shapes shape = is_list_shape (option_and_then (λ id. slice_get shapes id.0) shape.item)
