-- All faults of a value at a shape, in their order. botocore's `ParamValidator` makes these checks.
use Rattle.std.specs.Prelude.{ℕ, ◌+◌, if◌then◌else◌, ℤ, pos, int_le, List, [], ◌∷◌, ◌++◌, length, slice_get, Option, None, Some}
use Rattle.std.specs.List.{flat_map}
use Rattle.service_model.specs.declared.shape.Member.{Member}
use Rattle.service_model.specs.declared.shape.Shape.{Shape}
use Rattle.service_model.specs.declared.shape.ShapeId.{ShapeId}
use Rattle.texts.specs.declared.pairs.Pair.{Pair}
use Rattle.typed_value.specs.declared.fault.ValueFault.{ValueFault}
use Rattle.typed_value.specs.declared.fault.ValueFault.TheVariants.{Missing, Unknown, WrongType, Short, Small, Union}
use Rattle.typed_value.specs.declared.typed.Typed.{Typed}
use Rattle.typed_value.specs.declared.typed.Typed.TheOpen.{Typed-F}
use Rattle.typed_value.specs.declared.typed.Typed.TheFolds.{fold-Typed}
use Rattle.typed_value.specs.declared.wanted.Wanted.{Wanted}
use Rattle.typed_value.specs.Fits.{has_one, has_key}
use Rattle.typed_value.specs.Kinds.{is_map, takes}
use Rattle.typed_value.specs.Paths.{below, item_path, shown}
use Rattle.typed_value.specs.Places.{of_shape, of_member, member_named}

-- the faults of a value at a path, given what is wanted of it
abbrev pub Judge : Type 0
Judge = Wanted → List ℕ → List ValueFault

abbrev pub short_faults : Option ℤ → List ℕ → ℕ → List ValueFault
short_faults None path n = []
short_faults (Some least) path n = if int_le least (pos n) then [] else Short (shown path) n least ∷ []

abbrev pub small_faults : Option ℤ → List ℕ → ℤ → List ValueFault
small_faults None path n = []
small_faults (Some least) path n = if int_le least n then [] else Small (shown path) n least ∷ []

-- an item of a list or a value of a map, where its shape is known
abbrev pub item_faults : Option ShapeId → List ℕ → Judge → List ValueFault
item_faults None path judge = []
item_faults (Some id) path judge = judge (of_shape id) path

-- the items of a list from a place on
abbrev pub items_faults : Option ShapeId → List ℕ → ℕ → List Judge → List ValueFault
items_faults item path n [] = []
items_faults item path n (judge ∷ judges) = item_faults item (item_path path n) judge ++ items_faults item path (n + 1) judges

abbrev pub union_faults : Shape → List ℕ → ℕ → List ValueFault
union_faults shape path count = if has_one shape count then [] else Union (shown path) ∷ []

abbrev pub missing_faults : {X : Type 0} → List ℕ → List (Pair X) → List ℕ → List ValueFault
missing_faults path ps name = if has_key ps name then [] else Missing (shown path) name ∷ []

abbrev pub unknown_faults : ShapeId → List ℕ → List ℕ → Option Member → List ValueFault
unknown_faults id path name None = Unknown (shown path) name id ∷ []
unknown_faults id path name (Some m) = []

abbrev pub member_faults : List ℕ → Judge → Option Member → List ValueFault
member_faults path judge None = []
member_faults path judge (Some m) = judge (of_member m) path

-- the union; members that are missing, in the order in which they are required; members that the
-- structure doesn't have; then each of its members, in the value's order
abbrev pub structure_faults : ShapeId → Shape → List ℕ → List (Pair Judge) → List ValueFault
structure_faults id shape path ps =
    union_faults shape path (length ps)
    ++ flat_map (missing_faults path ps) shape.required
    ++ flat_map (λ p. unknown_faults id path p.key (member_named p.key shape.members)) ps
    ++ flat_map (λ p. member_faults (below path p.key) p.value (member_named p.key shape.members)) ps

abbrev pub fields_faults : ShapeId → Shape → List ℕ → List (Pair Judge) → List ValueFault
fields_faults id shape path ps =
    if is_map shape.kind
    then flat_map (λ p. item_faults shape.item (below path p.key) p.value) ps
    else structure_faults id shape path ps

-- what is inside a value of the right kind
abbrev pub inside_faults : ShapeId → Shape → List ℕ → Typed-F Judge → List ValueFault
inside_faults id shape path (Typed-F.Text t) = short_faults shape.min path (length t)
inside_faults id shape path (Typed-F.Int n) = small_faults shape.min path n
inside_faults id shape path (Typed-F.Items judges) = short_faults shape.min path (length judges) ++ items_faults shape.item path 0 judges
inside_faults id shape path (Typed-F.Fields ps) = fields_faults id shape path ps
inside_faults id shape path others = []

-- a value of the wrong kind has this fault alone
abbrev pub shape_faults : Option Shape → Typed-F Judge → Judge
shape_faults None value wanted path = []
shape_faults (Some shape) value wanted path =
    if takes wanted.is_json shape value then inside_faults wanted.shape shape path value else WrongType (shown path) shape.kind ∷ []

abbrev pub faults_step : List Shape → Typed-F Judge → Judge
faults_step shapes value wanted = shape_faults (slice_get shapes wanted.shape.0) value wanted

abbrev pub faults_where : List Shape → Typed → Judge
faults_where shapes = fold-Typed Judge (faults_step shapes)

-- the faults of a whole value
abbrev pub faults_of : List Shape → ShapeId → Typed → List ValueFault
faults_of shapes id value = faults_where shapes value (of_shape id) []
