-- The arguments that the members of an input have on the command line, and which of them clash.
use Rattle.std.specs.Prelude.{ℕ, Bool, true, false, ◌&&◌, ◌||◌, List, ◌++◌, map, slice_get, Option, Some, option_map, nat_lt, count_by, bytes_eq, codes}
use Rattle.std.specs.List.{find}
use Rattle.model_files.specs.Names.{command_name}
use Rattle.service_model.specs.declared.arguments.Argument.{Argument}
use Rattle.service_model.specs.declared.shape.Kind.{Kind}
use Rattle.service_model.specs.declared.shape.Kind.TheVariants as kind
use Rattle.service_model.specs.declared.shape.Member.{Member}
use Rattle.service_model.specs.declared.shape.Shape.{Shape}
use Rattle.service_model.specs.declared.shape.ShapeId.{ShapeId}

abbrev pub kind_of : List Shape → ShapeId → Option Kind
kind_of shapes id = option_map (λ shape. shape.kind) (slice_get shapes id.0)

abbrev pub is_boolean : Option Kind → Bool
is_boolean (Some kind.Boolean) = true
is_boolean _ = false

-- the argument of a member: its name, and whether it is a flag, which has a `no-` form too
abbrev pub argument_of : List Shape → Member → Argument
argument_of shapes m = record { name = command_name m.name; is_flag = is_boolean (kind_of shapes m.shape) }

abbrev pub arguments_of : List Shape → List Member → List Argument
arguments_of shapes members = map (argument_of shapes) members

abbrev pub negation_of : List ℕ → List ℕ
negation_of name = codes "no-" ++ name

-- one argument is the `no-` form of another, which is a flag
abbrev pub negates : Argument → Argument → Bool
negates a b = b.is_flag && bytes_eq a.name (negation_of b.name)

-- two arguments have one name, or one has the name of the other's `no-` form
abbrev pub clashes : Argument → Argument → Bool
clashes a b = bytes_eq a.name b.name || (negates a b || negates b a)

-- an argument clashes with another one: with two at least, since it does so with itself
abbrev pub is_shared : List Argument → Argument → Bool
is_shared arguments a = nat_lt 1 (count_by (clashes a) arguments)

-- the name of the first argument that clashes with another one
abbrev pub first_shared : List Argument → Option (List ℕ)
first_shared arguments = option_map (λ a. a.name) (find (is_shared arguments) arguments)

-- the name of the first member's argument that clashes with another's
abbrev pub shared_argument : List Shape → List Member → Option (List ℕ)
shared_argument shapes members = first_shared (arguments_of shapes members)
