-- The shapes of members by their names in the model file.
use Rattle.std.specs.Prelude.{◌≡◌, ℕ, List, [], ◌∷◌, Option, Ok, Contains, slice_get, option_map, option_and_then, codes}
use Rattle.json_doc.specs.declared.doc.Doc.{Doc}
use Rattle.json_doc.specs.Documents.{IsProper}
use Rattle.service_model.specs.declared.model.Table.{Table}
use Rattle.service_model.specs.declared.shape.Member.{Member}
use Rattle.service_model.specs.declared.shape.Shape.{Shape}
use Rattle.service_model.specs.declared.shape.ShapeId.{ShapeId}
use Rattle.service_model.specs.Models.{IsRead}
use Rattle.service_model.specs.Numbering.{text_if, value_in}

-- the text at the end of a chain of keys
abbrev pub text_along : List (List ℕ) → Doc → Option (List ℕ)
text_along [] doc = text_if doc
text_along (key ∷ keys) doc = option_and_then (text_along keys) (value_in key doc)

-- the name that the file gives for the shape of a member
abbrev pub shape_named : List ℕ → List ℕ → Doc → Option (List ℕ)
shape_named shape member doc = text_along (codes "shapes" ∷ shape ∷ codes "members" ∷ member ∷ codes "shape" ∷ []) doc

-- the name of the shape with a number
abbrev pub name_at : List Shape → ShapeId → Option (List ℕ)
name_at shapes id = option_map (λ shape. shape.name) (slice_get shapes id.0)

-- the shape at a member's number has the name that stands in the file
abbrev pub HasNamedShape : Doc → List Shape → Shape → Member → Type 0
HasNamedShape doc shapes shape member = shape_named shape.name member.name doc ≡ name_at shapes member.shape

-- so it is of every member of a model that was read from a document
abbrev pub MembersHaveNamedShapes : Type 0
MembersHaveNamedShapes =
    (doc : Doc) (table : Table) → IsProper doc → IsRead doc (Ok table)
    → (shape : Shape) (member : Member) → Contains table.shapes shape → Contains shape.members member → HasNamedShape doc table.shapes shape member
