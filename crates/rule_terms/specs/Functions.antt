-- The functions of the rules' language: their names and how many arguments they take.
use Rattle.std.specs.Prelude.{ℕ, List, [], ◌∷◌, if◌then◌else◌, codes, bytes_eq, Option, None, Some}
use Rattle.rule_terms.specs.declared.function.Function.{Function}
use Rattle.rule_terms.specs.declared.function.Function.TheVariants as function
use Rattle.rule_terms.specs.declared.function.TheConstants.{FUNCTIONS}

abbrev pub name_of : Function → List ℕ
name_of function.BooleanEquals = codes "booleanEquals"
name_of function.GetAttr = codes "getAttr"
name_of function.IsSet = codes "isSet"
name_of function.IsValidHostLabel = codes "isValidHostLabel"
name_of function.Not = codes "not"
name_of function.ParseArn = codes "aws.parseArn"
name_of function.ParseUrl = codes "parseURL"
name_of function.Partition = codes "aws.partition"
name_of function.StringEquals = codes "stringEquals"
name_of function.Substring = codes "substring"
name_of function.UriEncode = codes "uriEncode"

abbrev pub arity_of : Function → ℕ
arity_of function.BooleanEquals = 2
arity_of function.GetAttr = 2
arity_of function.IsSet = 1
arity_of function.IsValidHostLabel = 2
arity_of function.Not = 1
arity_of function.ParseArn = 1
arity_of function.ParseUrl = 1
arity_of function.Partition = 1
arity_of function.StringEquals = 2
arity_of function.Substring = 4
arity_of function.UriEncode = 1

-- the first of these with a name
abbrev pub first_named : List ℕ → List Function → Option Function
first_named name [] = None
first_named name (f ∷ fs) = if bytes_eq name (name_of f) then Some f else first_named name fs

-- the function with a name
abbrev pub function_named : List ℕ → Option Function
function_named name = first_named name FUNCTIONS
