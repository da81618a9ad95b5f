-- What the options of an operation are: an argument for each member of its input, in the model's order, and
-- the options of its own.
use Rattle.std.specs.Prelude.{ℕ, Bool, true, false, not, ◌&&◌, List, [], ◌∷◌, ◌++◌, if◌then◌else◌, map, slice_get, Option, None, Some, option_to_list, option_map, option_and_then, is_some, bytes_eq, codes}
use Rattle.std.specs.List.{list_any, enumerate_from}
use Rattle.model_files.specs.declared.paginators.PagerRow.{PagerRow}
use Rattle.model_files.specs.Names.{command_name}
use Rattle.service_model.specs.declared.operation.Operation.{Operation}
use Rattle.service_model.specs.declared.shape.Kind.{Kind}
use Rattle.service_model.specs.declared.shape.Kind.TheVariants as kind
use Rattle.service_model.specs.declared.shape.Member.{Member}
use Rattle.service_model.specs.declared.shape.Shape.{Shape}
use Rattle.service_model.specs.Arguments.{kind_of, negation_of}
use Rattle.arg_table.specs.declared.table.ArgTable.{ArgTable}
use Rattle.arg_table.specs.declared.table.Argument.{Argument}
use Rattle.arg_table.specs.declared.table.Paging.{Paging}
use Rattle.arg_table.specs.declared.table.Paging.TheVariants.{Never, ByItems, ByPages}
use Rattle.arg_table.specs.declared.table.Takes.{Takes}
use Rattle.arg_table.specs.declared.table.Takes.TheVariants.{NoValue, OneValue, AnyNumber}
use Rattle.arg_table.specs.declared.meaning.Meaning.{Meaning}
use Rattle.arg_table.specs.declared.meaning.Meaning.TheVariants as meaning
use Rattle.arg_table.specs.declared.meaning.Meant.{Meant}
use Rattle.arg_table.specs.Settings.{is_setting}

-- a boolean takes no value, a list any number, and any other member one
abbrev pub takes_of : Option Kind → Takes
takes_of (Some kind.Boolean) = NoValue
takes_of (Some kind.List) = AnyNumber
takes_of _ = OneValue

abbrev pub is_flag : Takes → Bool
is_flag NoValue = true
is_flag _ = false

-- the members that take the tokens and the length of a page
abbrev pub paged_by : Option PagerRow → List (List ℕ)
paged_by None = []
paged_by (Some row) = row.inputs ++ option_to_list row.limit

-- the argument of a member: it is needed where the input requires it and it gets no identifier by itself
abbrev pub argument_of : List Shape → List (List ℕ) → List (List ℕ) → ℕ → Member → Argument
argument_of shapes required paged number m = record {
  member = number;
  name = command_name m.name;
  takes = takes_of (kind_of shapes m.shape);
  is_needed = list_any (bytes_eq m.name) required && not m.token;
  is_paged = list_any (bytes_eq m.name) paged;
}

abbrev pub arguments_in : List Shape → Option PagerRow → Option Shape → List Argument
arguments_in shapes row None = []
arguments_in shapes row (Some input) =
    map (λ e. argument_of shapes input.required (paged_by row) e.0 e.1) (enumerate_from 0 input.members)

-- an operation with a row has options for items, and where the row has a limit key also one for pages
abbrev pub paging_of : Option PagerRow → Paging
paging_of None = Never
paging_of (Some row) = if is_some row.limit then ByPages else ByItems

abbrev pub table_of : List Shape → Operation → Option PagerRow → ArgTable
table_of shapes op row = record {
  arguments = arguments_in shapes row (option_and_then (λ id. slice_get shapes id.0) op.input);
  paging = paging_of row;
}

-- an option of the operation itself
abbrev pub items_named : List ℕ → Option Meaning
items_named name =
    if bytes_eq name (codes "max-items") then Some meaning.MaxItems else
    if bytes_eq name (codes "starting-token") then Some meaning.StartingToken else None

abbrev pub paging_named : Paging → List ℕ → Option Meaning
paging_named Never name = None
paging_named ByItems name = items_named name
paging_named ByPages name = if bytes_eq name (codes "page-size") then Some meaning.PageSize else items_named name

abbrev pub option_named : Paging → List ℕ → Option Meaning
option_named paging name = if bytes_eq name (codes "cli-input-json") then Some meaning.InputJson else paging_named paging name

-- a name is the `no-` form of an argument that is a flag
abbrev pub is_negation : List ℕ → Argument → Bool
is_negation name a = is_flag a.takes && bytes_eq name (negation_of a.name)

abbrev pub meant_by : Argument → Bool → Meant
meant_by a negated = record { member = a.member; takes = a.takes; no = negated }

-- the argument that has the name, or whose `no-` form it is
abbrev pub argument_named : List Argument → List ℕ → Option Meant
argument_named [] name = None
argument_named (a ∷ others) name =
    if bytes_eq name a.name then Some (meant_by a false) else
    if is_negation name a then Some (meant_by a true) else argument_named others name

-- an argument with the name of an option can't be reached by it
abbrev pub or_argument : Option Meaning → List Argument → List ℕ → Option Meaning
or_argument (Some option) arguments name = Some option
or_argument None arguments name =
    if is_setting name then None else option_map meaning.Argument (argument_named arguments name)

-- what a name means in the line of an operation: a waiter has no options for pages
abbrev pub meaning_of : ArgTable → Bool → List ℕ → Option Meaning
meaning_of table waits name = or_argument (option_named (if waits then Never else table.paging) name) table.arguments name
