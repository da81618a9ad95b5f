-- The first fault of a value, with its path: `.` and the name of a member or the key of a map, or a place in a
-- list in brackets, from the outermost value to the innermost.
use Rattle.std.specs.Prelude.{ℕ, ◌+◌, ◌==◌, Bool, true, false, if◌then◌else◌, List, [], ◌∷◌, ◌++◌, Result, Ok, Err}
use Rattle.std.specs.Fmt.{decimal}
use Rattle.texts.specs.declared.pairs.Pair.{Pair}
use Rattle.texts.specs.Calls.{Unless, ◌>>=◌}
use Rattle.shape_values.specs.declared.fault.ArgFault.{ArgFault}
use Rattle.shape_values.specs.declared.fault.ArgFault.TheVariants.{Bad, File, OutOfMemory}
use Rattle.shape_values.specs.declared.fault.ValueKind.{ValueKind}

-- a value, or the first fault
abbrev pub Outcome : Type 0 → Type 0
Outcome A = Result A ArgFault

-- want of memory, which is free
abbrev pub is_memory : ArgFault → Bool
is_memory OutOfMemory = true
is_memory others = false

-- what comes is one that is due, unless memory was wanted
abbrev pub UnlessMemory : {A : Type 0} → (Outcome A → Type 0) → Outcome A → Type 0
UnlessMemory IsDue (Ok x) = IsDue (Ok x)
UnlessMemory IsDue (Err fault) = Unless (is_memory fault) (IsDue (Err fault))

abbrev pub to_name : List ℕ → List ℕ
to_name name = 46 ∷ name

abbrev pub to_item : ℕ → List ℕ
to_item n = 91 ∷ decimal n ++ 93 ∷ []

-- the fault of a part, as one of the whole
abbrev pub moved : List ℕ → ArgFault → ArgFault
moved step (Bad path kind) = Bad (step ++ path) kind
moved step (File path) = File path
moved step OutOfMemory = OutOfMemory

abbrev pub under : {A : Type 0} → List ℕ → Outcome A → Outcome A
under step (Ok x) = Ok x
under step (Err fault) = Err (moved step fault)

-- what is wrong with the whole
abbrev pub here : ValueKind → ArgFault
here kind = Bad [] kind

-- what each item gives, up to the first fault
abbrev pub each_from : {X A : Type 0} → (X → Outcome A) → ℕ → List X → Outcome (List A)
each_from f n [] = Ok []
each_from f n (x ∷ xs) = under (to_item n) (f x) >>= (λ v. each_from f (n + 1) xs >>= (λ vs. Ok (v ∷ vs)))

abbrev pub field : {A : Type 0} → List ℕ → A → Pair A
field key value = record { key = key; value = value }

-- what each field gives, up to the first fault
abbrev pub each_field : {X A : Type 0} → (Pair X → Outcome A) → List (Pair X) → Outcome (List (Pair A))
each_field f [] = Ok []
each_field f (p ∷ ps) = under (to_name p.key) (f p) >>= (λ v. each_field f ps >>= (λ qs. Ok (field p.key v ∷ qs)))

-- a path below the whole: without the `.` of its first name
abbrev pub shown : List ℕ → List ℕ
shown [] = []
shown (c ∷ cs) = if c == 46 then cs else c ∷ cs

-- a path from that of a value on
abbrev pub path_from : List ℕ → List ℕ → List ℕ
path_from [] path = shown path
path_from (c ∷ cs) path = (c ∷ cs) ++ path

abbrev pub fault_from : List ℕ → ArgFault → ArgFault
fault_from start (Bad path kind) = Bad (path_from start path) kind
fault_from start (File path) = File path
fault_from start OutOfMemory = OutOfMemory

abbrev pub from_path : {A : Type 0} → List ℕ → Outcome A → Outcome A
from_path start (Ok x) = Ok x
from_path start (Err fault) = Err (fault_from start fault)
