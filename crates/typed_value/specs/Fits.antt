-- Whether a value fits a shape: its kind, its least length or value, what a structure requires, that a
-- union has one member, and all of its parts.
use Rattle.std.specs.Prelude.{ℕ, Bool, true, false, not, ◌==◌, ◌&&◌, ◌||◌, if◌then◌else◌, pos, List, map, length, slice_get, Option, None, Some, bytes_eq}
use Rattle.std.specs.List.{list_any, list_all}
use Rattle.service_model.specs.declared.shape.Member.{Member}
use Rattle.service_model.specs.declared.shape.Shape.{Shape}
use Rattle.service_model.specs.declared.shape.ShapeId.{ShapeId}
use Rattle.texts.specs.declared.pairs.Pair.{Pair}
use Rattle.typed_value.specs.declared.typed.Typed.{Typed}
use Rattle.typed_value.specs.declared.typed.Typed.TheOpen.{Typed-F}
use Rattle.typed_value.specs.declared.typed.Typed.TheFolds.{fold-Typed}
use Rattle.typed_value.specs.declared.wanted.Wanted.{Wanted}
use Rattle.typed_value.specs.Kinds.{is_map, takes, is_enough}
use Rattle.typed_value.specs.Places.{of_shape, of_member, member_named}

-- whether a value fits, given what is wanted of it
abbrev pub Test : Type 0
Test = Wanted → Bool

-- the entries, each with what is made of its value
abbrev pub with_values : {X Y : Type 0} → (X → Y) → List (Pair X) → List (Pair Y)
with_values f ps = map (λ p. record { key = p.key; value = f p.value }) ps

-- a union has one member; other structures any number
abbrev pub has_one : Shape → ℕ → Bool
has_one shape count = not shape.is_union || count == 1

abbrev pub has_key : {X : Type 0} → List (Pair X) → List ℕ → Bool
has_key ps name = list_any (λ p. bytes_eq p.key name) ps

-- an item of a list or a value of a map, where its shape is known
abbrev pub item_fits : Option ShapeId → Test → Bool
item_fits None test = true
item_fits (Some id) test = test (of_shape id)

-- a member that the structure has, with a value that fits it
abbrev pub member_fits : Option Member → Test → Bool
member_fits None test = false
member_fits (Some m) test = test (of_member m)

abbrev pub structure_fits : Shape → List (Pair Test) → Bool
structure_fits shape ps =
    has_one shape (length ps)
    && (list_all (has_key ps) shape.required
    && list_all (λ p. member_fits (member_named p.key shape.members) p.value) ps)

abbrev pub fields_fit : Shape → List (Pair Test) → Bool
fields_fit shape ps = if is_map shape.kind then list_all (λ p. item_fits shape.item p.value) ps else structure_fits shape ps

-- what is inside a value of the right kind
abbrev pub inside_fits : Shape → Typed-F Test → Bool
inside_fits shape (Typed-F.Text t) = is_enough shape.min (pos (length t))
inside_fits shape (Typed-F.Int n) = is_enough shape.min n
inside_fits shape (Typed-F.Items tests) = is_enough shape.min (pos (length tests)) && list_all (item_fits shape.item) tests
inside_fits shape (Typed-F.Fields ps) = fields_fit shape ps
inside_fits shape others = true

-- every number that a model holds is that of a shape
abbrev pub shape_fits : Option Shape → Typed-F Test → Bool → Bool
shape_fits None value is_json = true
shape_fits (Some shape) value is_json = takes is_json shape value && inside_fits shape value

abbrev pub fits_step : List Shape → Typed-F Test → Test
fits_step shapes value wanted = shape_fits (slice_get shapes wanted.shape.0) value wanted.is_json

abbrev pub fits_where : List Shape → Typed → Test
fits_where shapes = fold-Typed Test (fits_step shapes)

-- the value fits the shape
abbrev pub fits_of : List Shape → ShapeId → Typed → Bool
fits_of shapes id value = fits_where shapes value (of_shape id)
