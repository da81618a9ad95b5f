-- Which shapes are reached from which: by members, items, keys and values.
use Rattle.std.specs.Prelude.{◌≡◌, ℕ, ◌<◌, Bool, false, IsTrue, nat_eq, List, [], ◌∷◌, ◌++◌, map, slice_get, slice_index_or, Option, None, Some, option_to_list}
use Rattle.std.specs.List.{All, IsAmong, list_any}
use Rattle.std.specs.Option.{option_map_or}
use Rattle.std.specs.Global.{Vec}
use Rattle.service_model.specs.declared.shape.Shape.{Shape}
use Rattle.service_model.specs.declared.shape.ShapeId.{ShapeId}

-- the shapes that a shape names: its members', its item's or value's, its key's
abbrev pub parts : Shape → List ShapeId
parts shape = map (λ m. m.shape) shape.members ++ option_to_list shape.item ++ option_to_list shape.key

abbrev pub parts_maybe : Option Shape → List ShapeId
parts_maybe None = []
parts_maybe (Some shape) = parts shape

-- a list of shapes leads from one to another, each a part of the one before
abbrev pub IsChain : List Shape → ShapeId → List ShapeId → ShapeId → Type 0
IsChain shapes from [] to = from ≡ to
IsChain shapes from (id ∷ ids) to = IsAmong (parts_maybe (slice_get shapes from.0)) id × IsChain shapes id ids to

-- a shape is reached from another
abbrev pub IsReached : List Shape → ShapeId → ShapeId → Type 0
IsReached shapes from to = (ids : List ShapeId) × IsChain shapes from ids to

-- a shape with this property is reached from another
abbrev pub Reaches : List Shape → (Shape → Type 0) → ShapeId → Type 0
Reaches shapes P from = (to : ShapeId) × (shape : Shape) × IsReached shapes from to × (slice_get shapes to.0 ≡ Some shape) × P shape

-- a marked shape is reached from this one
abbrev pub LeadsTo : List Shape → List Bool → ShapeId → Type 0
LeadsTo shapes marked from = (to : ShapeId) × IsReached shapes from to × IsTrue (slice_index_or marked to.0 false)

-- a shape has this one as a part
abbrev pub has_part : ℕ → Shape → Bool
has_part part shape = list_any (λ id. nat_eq part id.0) (parts shape)

abbrev pub uses : List Shape → ℕ → ℕ → Bool
uses shapes user part = option_map_or (has_part part) (slice_get shapes user) false

-- the numbers of a shape's parts are below this
abbrev pub HasPartsBelow : ℕ → Shape → Type 0
HasPartsBelow count shape = All (λ id. id.0 < count) (parts shape)

-- a shape is noted among the users of this one
abbrev pub is_listed : List (Vec ℕ) → ℕ → ℕ → Bool
is_listed lists part user = option_map_or (λ users. list_any (nat_eq user) users.items) (slice_get lists part) false
