-- A command's line against the table of its operation.
use Rattle.std.specs.Prelude.{ℕ, Bool, false, not, ◌&&◌, ◌||◌, ◌==◌, List, [], ◌∷◌, if◌then◌else◌, map, filter, fold, slice_get, Option, None, Some, is_some, Result, Ok, Err, codes}
use Rattle.std.specs.List.{list_any}
use Rattle.std.specs.Option.{option_map_or}
use Rattle.arg_table.specs.declared.fault.UsageFault.{UsageFault}
use Rattle.arg_table.specs.declared.fault.UsageFault.TheVariants.{MissingArguments, PaginateConflict}
use Rattle.arg_table.specs.declared.given.Given.{Given}
use Rattle.arg_table.specs.declared.given.Given.TheVariants.{Argument, InputJson, StartingToken, MaxItems, PageSize}
use Rattle.arg_table.specs.declared.command.CommandHead.{CommandHead}
use Rattle.arg_table.specs.declared.lines.Arg.{Arg}
use Rattle.arg_table.specs.declared.lines.Line.{Line}
use Rattle.arg_table.specs.declared.table.ArgTable.{ArgTable}
use Rattle.texts.specs.Calls.{◌>>=◌}
use Rattle.arg_table.specs.Given.{given_in}

-- an argument stands in the place of the earlier one of its member, or at the end
abbrev pub put_arg : List Arg → Arg → List Arg
put_arg [] arg = arg ∷ []
put_arg (a ∷ others) arg = if arg.member == a.member then arg ∷ others else a ∷ put_arg others arg

abbrev pub empty_line : Line
empty_line = record { args = []; input_json = None; start = None; max = None; page = None }

-- a line with one option more, which replaces an earlier one
abbrev pub with_given : Line → Given → Line
with_given line (Argument arg) = record line { args = put_arg line.args arg }
with_given line (InputJson text) = record line { input_json = Some text }
with_given line (StartingToken text) = record line { start = Some text }
with_given line (MaxItems count) = record line { max = Some count }
with_given line (PageSize count) = record line { page = Some count }

abbrev pub line_from : List Given → Line
line_from givens = fold with_given empty_line givens

-- the name of an option for pages
abbrev pub paging_name : Given → Option (List ℕ)
paging_name (StartingToken text) = Some (codes "starting-token")
paging_name (MaxItems count) = Some (codes "max-items")
paging_name (PageSize count) = Some (codes "page-size")
paging_name _ = None

-- the first option for pages
abbrev pub first_paging : List Given → Option (List ℕ)
first_paging [] = None
first_paging (g ∷ gs) = if is_some (paging_name g) then paging_name g else first_paging gs

-- a member takes a token or the length of a page
abbrev pub is_paged : ArgTable → Arg → Bool
is_paged table arg = option_map_or (λ a. a.is_paged) (slice_get table.arguments arg.member) false

-- options for pages don't go with `--no-paginate`, nor with an argument that pages set
abbrev pub has_conflict : ArgTable → Bool → Line → Bool
has_conflict table paginate line = not paginate || list_any (is_paged table) line.args

-- the first option for pages that has one
abbrev pub conflict_of : ArgTable → Bool → List Given → Line → Option (List ℕ)
conflict_of table paginate givens line = if has_conflict table paginate line then first_paging givens else None

-- the members of a line's arguments, in their order
abbrev pub members_of : List Arg → List ℕ
members_of args = map (λ arg. arg.member) args

abbrev pub is_given : List Arg → ℕ → Bool
is_given args member = list_any (λ arg. member == arg.member) args

-- the arguments that are needed and not given, in the model's order; the members of a JSON document count as given
abbrev pub missing_of : ArgTable → Line → List (List ℕ)
missing_of table line =
    if is_some line.input_json then [] else
    map (λ a. a.name) (filter (λ a. a.is_needed && not (is_given line.args a.member)) table.arguments)

abbrev pub no_missing : List (List ℕ) → Result (Unit {0}) UsageFault
no_missing [] = Ok tt
no_missing (name ∷ names) = Err (MissingArguments (name ∷ names))

abbrev pub no_conflict : Option (List ℕ) → Result (Unit {0}) UsageFault
no_conflict None = Ok tt
no_conflict (Some name) = Err (PaginateConflict name)

-- the line of a command, or its first fault: that of an option from the left, then a conflict, then what is missing
unfoldable pub line_of : ArgTable → CommandHead → Result Line UsageFault
line_of table head = do
  givens ← given_in table head.wait head.tail
  apart ← no_conflict (conflict_of table head.paginate givens (line_from givens))
  whole ← no_missing (missing_of table (line_from givens))
  Ok (line_from givens)
