-- Paths of values in a reply, from the outermost value to the innermost: `.` and the name of a member or
-- the key of a map, or a place in a list in brackets. The path of the whole is empty.
use Rattle.std.specs.Prelude.{ℕ, ◌==◌, if◌then◌else◌, List, [], ◌∷◌, ◌++◌, Option, None, Some, Result, Ok, Err}
use Rattle.std.specs.Fmt.{decimal}

abbrev pub Path : Type 0
Path = List ℕ

abbrev pub to_name : List ℕ → Path
to_name name = 46 ∷ name

abbrev pub to_item : ℕ → Path
to_item n = 91 ∷ decimal n ++ 93 ∷ []

-- the fault of a part, as one of the whole
abbrev pub under : Path → Option Path → Option Path
under step None = None
under step (Some path) = Some (step ++ path)

-- the first of two, where there is one
abbrev pub first_of : {A : Type 0} → Option A → Option A → Option A
first_of None second = second
first_of (Some x) second = Some x

-- the value, unless there is a fault
abbrev pub unless : {A : Type 0} → Option Path → A → Result A Path
unless None value = Ok value
unless (Some path) value = Err path

-- the answer of a part, as one of the whole
abbrev pub inside : {A : Type 0} → Path → Result A Path → Result A Path
inside step (Ok x) = Ok x
inside step (Err path) = Err (step ++ path)

-- a path as faults have it: without the `.` of the first name
abbrev pub shown : Path → List ℕ
shown [] = []
shown (c ∷ cs) = if c == 46 then cs else c ∷ cs
