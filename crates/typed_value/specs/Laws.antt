-- What the laws say of the shapes of a model.
use Rattle.std.specs.Prelude.{false, List, [], map, None}
use Rattle.std.specs.List.{All}
use Rattle.service_model.specs.declared.shape.Shape.{Shape}
use Rattle.service_model.specs.Kept.{HasOwnNames}

-- no two members of a structure have one name
abbrev pub HaveDistinctMembers : List Shape → Type 0
HaveDistinctMembers shapes = All (λ shape. HasOwnNames shape.members) shapes

abbrev pub loosened_shape : Shape → Shape
loosened_shape shape = record shape { required = []; min = None; is_union = false }

-- the shapes without members that must be there, least lengths and values, and unions
abbrev pub loosened : List Shape → List Shape
loosened shapes = map loosened_shape shapes
