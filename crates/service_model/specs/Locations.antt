-- Which kinds of values can stand in which parts of a request or reply.
use Rattle.std.specs.Prelude.{Bool, true, false, ◌&&◌, ◌||◌, Option, None, Some, is_some}
use Rattle.service_model.specs.declared.numbering.Outline.{Outline}
use Rattle.service_model.specs.declared.shape.Kind.{Kind}
use Rattle.service_model.specs.declared.shape.Kind.TheVariants as kind
use Rattle.service_model.specs.declared.shape.Location.{Location}
use Rattle.service_model.specs.declared.shape.Location.TheVariants as location
use Rattle.service_model.specs.declared.shape.ShapeId.{ShapeId}
use Rattle.service_model.specs.Numbering.{Names, outline_at, item_outline, is_string}

-- values are neither structures, lists nor maps
abbrev pub is_scalar : Option Kind → Bool
is_scalar None = false
is_scalar (Some kind.Structure) = false
is_scalar (Some kind.List) = false
is_scalar (Some kind.Map) = false
is_scalar (Some _) = true

abbrev pub is_list : Option Kind → Bool
is_list (Some kind.List) = true
is_list _ = false

abbrev pub is_map : Option Kind → Bool
is_map (Some kind.Map) = true
is_map _ = false

-- there is an item, and it passes
abbrev pub has_item : (Outline → Bool) → Option Outline → Bool
has_item passes None = false
has_item passes (Some outline) = passes outline

abbrev pub is_list_of_scalars : Names → Outline → Bool
is_list_of_scalars names outline = has_item (λ item. is_list outline.kind && is_scalar item.kind) (item_outline names outline)

abbrev pub is_scalar_or_list : Names → Outline → Bool
is_scalar_or_list names outline = is_scalar outline.kind || is_list_of_scalars names outline

abbrev pub is_map_of_strings : Names → Outline → Bool
is_map_of_strings names outline = has_item (λ item. is_map outline.kind && is_string item.kind) (item_outline names outline)

-- a map of scalars or of lists of scalars
abbrev pub is_map_of_these : Names → Outline → Bool
is_map_of_these names outline = has_item (λ item. is_map outline.kind && is_scalar_or_list names item) (item_outline names outline)

abbrev pub can_be_at : Names → Location → Outline → Bool
can_be_at names location.Uri outline = is_scalar outline.kind
can_be_at names location.Header outline = is_scalar_or_list names outline
can_be_at names location.Headers outline = is_map_of_strings names outline
can_be_at names location.Querystring outline = is_scalar_or_list names outline || is_map_of_these names outline
can_be_at names location.StatusCode outline = is_some outline.kind

-- a member of this shape can stand there; one whose kind can't be read stands nowhere
unfoldable pub can_stand : Names → ShapeId → Location → Bool
can_stand names id location = has_item (can_be_at names location) (outline_at names id)

-- the shape with a number is a scalar
abbrev pub is_scalar_shape : Names → ShapeId → Bool
is_scalar_shape names id = has_item (λ outline. is_scalar outline.kind) (outline_at names id)
