-- What is wanted of a value where it stands.
use Rattle.std.specs.Prelude.{ℕ, false, ◌&&◌, if◌then◌else◌, List, [], ◌∷◌, Option, None, Some, IfSome, bytes_eq}
use Rattle.std.specs.List.{All}
use Rattle.service_model.specs.declared.shape.Member.{Member}
use Rattle.service_model.specs.declared.shape.Shape.{Shape}
use Rattle.service_model.specs.declared.shape.ShapeId.{ShapeId}
use Rattle.service_model.specs.Kept.{IsWithin}
use Rattle.service_model.specs.Shapes.{names_in}
use Rattle.texts.specs.Keys.{IsDistinct}
use Rattle.typed_value.specs.declared.wanted.Wanted.{Wanted}
use Rattle.typed_value.specs.Kinds.{is_header}

abbrev pub of_shape : ShapeId → Wanted
of_shape id = record { shape = id; is_json = false }

-- a header that is a JSON document takes one
abbrev pub of_member : Member → Wanted
of_member m = record { shape = m.shape; is_json = m.json_value && is_header m.location }

-- the member with a name
abbrev pub member_named : List ℕ → List Member → Option Member
member_named name [] = None
member_named name (m ∷ ms) = if bytes_eq m.name name then Some m else member_named name ms

-- the shapes of its parts are there, and no two members have one name
pub record IsComplete (shapes : List Shape) (shape : Shape) : Type 0 where
  pub members : All (λ m. IsWithin shapes m.shape) shape.members
  pub item : IfSome shape.item (IsWithin shapes)
  pub names : IsDistinct (names_in shape.members)
