-- What is true of every line.
use Rattle.std.specs.Prelude.{◌≡◌, ℕ, ◌==◌, false, List, [], ◌∷◌, Option, Result, Ok, Err, find}
use Rattle.std.specs.List.{list_any}
use Rattle.arg_table.specs.declared.fault.UsageFault.{UsageFault}
use Rattle.arg_table.specs.declared.fault.UsageFault.TheVariants.{UnknownOption, MissingValue, NoCommand, UnknownArgument, MissingArguments, ExtraWord, BadChoice, BadCount, PaginateConflict}
use Rattle.arg_table.specs.declared.lines.Arg.{Arg}

-- what can be wrong with the words of a line by themselves
abbrev pub IsHeadFault : UsageFault → Type 0
IsHeadFault (UnknownOption name) = Unit {0}
IsHeadFault (MissingValue name) = Unit {0}
IsHeadFault NoCommand = Unit {0}
IsHeadFault (ExtraWord word) = Unit {0}
IsHeadFault (BadChoice name) = Unit {0}
IsHeadFault _ = ⊥

-- what can be wrong with them beside the table of an operation
abbrev pub IsLineFault : UsageFault → Type 0
IsLineFault (MissingValue name) = Unit {0}
IsLineFault (UnknownArgument name) = Unit {0}
IsLineFault (MissingArguments names) = Unit {0}
IsLineFault (ExtraWord word) = Unit {0}
IsLineFault (BadChoice name) = Unit {0}
IsLineFault (BadCount name) = Unit {0}
IsLineFault (PaginateConflict name) = Unit {0}
IsLineFault _ = ⊥

-- there is a value, or one of these faults
abbrev pub IsValueOr : {T : Type 0} → (UsageFault → Type 0) → Result T UsageFault → Type 0
IsValueOr IsFault (Ok x) = Unit {0}
IsValueOr IsFault (Err fault) = IsFault fault

-- the argument of a member
abbrev pub arg_at : List Arg → ℕ → Option Arg
arg_at args member = find (λ arg. member == arg.member) args

-- no number stands twice
abbrev pub AreDistinct : List ℕ → Type 0
AreDistinct [] = Unit {0}
AreDistinct (m ∷ ms) = (list_any (λ n. m == n) ms ≡ false) × AreDistinct ms
