-- What is told of faults, a line each, in botocore's words.
use Rattle.std.specs.Prelude.{ℕ, ℤ, List, [], ◌∷◌, ◌++◌, map, Some, codes}
use Rattle.std.specs.Fmt.{decimal, signed_decimal}
use Rattle.std.specs.List.{flat_map}
use Rattle.service_model.specs.declared.shape.Kind.{Kind}
use Rattle.service_model.specs.declared.shape.Kind.TheVariants as kind
use Rattle.service_model.specs.declared.shape.Member.{Member}
use Rattle.service_model.specs.declared.shape.Shape.{Shape}
use Rattle.service_model.specs.declared.shape.ShapeId.{ShapeId}
use Rattle.service_model.specs.Admission.{members_at}
use Rattle.texts.specs.Joined.{joined}
use Rattle.typed_value.specs.declared.fault.ValueFault.{ValueFault}
use Rattle.typed_value.specs.declared.fault.ValueFault.TheVariants.{Missing, Unknown, WrongType, Short, Small, Union}

-- the whole value is the input
abbrev pub named : List ℕ → List ℕ
named [] = codes "input"
named (c ∷ cs) = c ∷ cs

abbrev pub quoted : List ℕ → List ℕ
quoted name = 34 ∷ [] ++ name ++ 34 ∷ []

abbrev pub kind_word : Kind → List ℕ
kind_word kind.Structure = codes "structure"
kind_word kind.List = codes "list"
kind_word kind.Map = codes "map"
kind_word kind.Str = codes "string"
kind_word kind.Integer = codes "integer"
kind_word kind.Long = codes "long"
kind_word kind.Float = codes "float"
kind_word kind.Double = codes "double"
kind_word kind.Boolean = codes "boolean"
kind_word kind.Blob = codes "blob"
kind_word kind.Timestamp = codes "timestamp"

abbrev pub names_text : List Member → List ℕ
names_text members = joined (codes ", ") (map (λ m. m.name) members)

abbrev pub missing_line : List ℕ → List ℕ → List ℕ
missing_line path name = codes "Missing required parameter in " ++ named path ++ codes ": " ++ quoted name

-- the members that the structure has stand behind the one that it doesn't
abbrev pub unknown_line : List Shape → List ℕ → List ℕ → ShapeId → List ℕ
unknown_line shapes path name id =
    codes "Unknown parameter in " ++ named path ++ codes ": " ++ quoted name
    ++ codes ", must be one of: " ++ names_text (members_at shapes (Some id))

abbrev pub wrong_type_line : List ℕ → Kind → List ℕ
wrong_type_line path k = codes "Invalid type for parameter " ++ named path ++ codes ", expected " ++ kind_word k

abbrev pub short_line : List ℕ → ℕ → ℤ → List ℕ
short_line path n least =
    codes "Invalid length for parameter " ++ named path ++ codes ", value: " ++ decimal n
    ++ codes ", valid min length: " ++ signed_decimal least

abbrev pub small_line : List ℕ → ℤ → ℤ → List ℕ
small_line path n least =
    codes "Invalid value for parameter " ++ named path ++ codes ", value: " ++ signed_decimal n
    ++ codes ", valid min value: " ++ signed_decimal least

-- a fault beside the shapes of its model
abbrev pub line_of : List Shape → ValueFault → List ℕ
line_of shapes (Missing path name) = missing_line path name
line_of shapes (Unknown path name id) = unknown_line shapes path name id
line_of shapes (WrongType path k) = wrong_type_line path k
line_of shapes (Short path n least) = short_line path n least
line_of shapes (Small path n least) = small_line path n least
line_of shapes (Union path) = codes "Invalid number of members in union " ++ named path

-- a title, and a line end and the line of each fault
abbrev pub report_of : List Shape → List ValueFault → List ℕ
report_of shapes faults = codes "Parameter validation failed:" ++ flat_map (λ fault. 10 ∷ [] ++ line_of shapes fault) faults
