-- The functions of the JMESPath specification, "Built-in Functions": names and arguments.
use Rattle.std.specs.Prelude.{ℕ, ◌==◌, if◌then◌else◌, List, [], ◌∷◌, Option, None, Some, codes, bytes_eq}
use Rattle.jmes_syntax.specs.declared.function.TheConstants.{FUNCTIONS}
use Rattle.jmes_syntax.specs.declared.function.Arity.{Arity}
use Rattle.jmes_syntax.specs.declared.function.Arity.TheVariants.{Exactly, AtLeast}
use Rattle.jmes_syntax.specs.declared.function.Parameter.{Parameter}
use Rattle.jmes_syntax.specs.declared.function.Parameter.TheVariants.{Value, Expref}
use Rattle.jmes_syntax.specs.declared.function.Function.{Function}
use Rattle.jmes_syntax.specs.declared.function.Function.TheVariants as function

abbrev pub name_of : Function → List ℕ
name_of function.Abs = codes "abs"
name_of function.Ceil = codes "ceil"
name_of function.Contains = codes "contains"
name_of function.EndsWith = codes "ends_with"
name_of function.Floor = codes "floor"
name_of function.Join = codes "join"
name_of function.Keys = codes "keys"
name_of function.Length = codes "length"
name_of function.Map = codes "map"
name_of function.Max = codes "max"
name_of function.MaxBy = codes "max_by"
name_of function.Merge = codes "merge"
name_of function.Min = codes "min"
name_of function.MinBy = codes "min_by"
name_of function.NotNull = codes "not_null"
name_of function.Reverse = codes "reverse"
name_of function.Sort = codes "sort"
name_of function.SortBy = codes "sort_by"
name_of function.StartsWith = codes "starts_with"
name_of function.Sum = codes "sum"
name_of function.ToArray = codes "to_array"
name_of function.ToNumber = codes "to_number"
name_of function.ToString = codes "to_string"
name_of function.Type = codes "type"
name_of function.Values = codes "values"

-- how many arguments it takes
abbrev pub arity_of : Function → Arity
arity_of function.Contains = Exactly 2
arity_of function.EndsWith = Exactly 2
arity_of function.Join = Exactly 2
arity_of function.Map = Exactly 2
arity_of function.MaxBy = Exactly 2
arity_of function.MinBy = Exactly 2
arity_of function.SortBy = Exactly 2
arity_of function.StartsWith = Exactly 2
arity_of function.Merge = AtLeast 1
arity_of function.NotNull = AtLeast 1
arity_of others = Exactly 1

-- the expression that `max_by`, `min_by`, `sort_by` and `map` apply to each element is an expref
abbrev pub parameter_of : Function → ℕ → Parameter
parameter_of function.Map at = if at == 0 then Expref else Value
parameter_of function.MaxBy at = if at == 1 then Expref else Value
parameter_of function.MinBy at = if at == 1 then Expref else Value
parameter_of function.SortBy at = if at == 1 then Expref else Value
parameter_of others at = Value

-- the first of these with this name
abbrev pub first_named : List ℕ → List Function → Option Function
first_named t [] = None
first_named t (f ∷ fs) = if bytes_eq t (name_of f) then Some f else first_named t fs

-- the function with this name
abbrev pub function_named : List ℕ → Option Function
function_named t = first_named t FUNCTIONS
